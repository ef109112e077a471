use Rattle.std.proofs.Common.{◌≡◌, ◌+◌, [], ◌∷◌, IfSome, length, sym, ap, subst, ◌∙◌, arith, vec_len, rules as known}
use Rattle.std.specs.BTreeMap.{get_by_text}
use Rattle.html_render_dom_nodes.specs.Places.{TellsPlaces, first_of, place_of}
use Rattle.html_render_dom_nodes.proofs.Places.{place_of-append}
use Rattle.html_render_dom_nodes.proofs.attributes.AttributeList.push.Goals as goal
use Rattle.html_render_dom_nodes.proofs.attributes.AttributeList.push.Goals.{in-Some+in_ok-note, in_default}

pub invariant_of-self-2 : goal.invariant_of-self-2
invariant_of-self-2 c =
    let list = c.self.inside.list.items in
    let given = c.args.given ∷ [] in
    elim c.match-noted.branch [
      | in-Some+in_ok-note w ↦ (
          let tells : TellsPlaces w.in-Some.places.value list =
          subst (λ o. IfSome o (λ places. TellsPlaces places.value list)) (sym c.replace-noted.ensures.value ∙ w.in-Some.is) c.self.invariant in
          let counted : vec_len c.self.inside.list ≡ length list = search known in
          let long : w.len.result ≡ 0 + length list = w.len.ensures ∙ counted ∙ omega arith in
          let all : TellsPlaces w.note.new.places c.push.new.self.items = λ local.
          w.in_ok-note.ensures local
          ∙ ap (λ m. first_of (get_by_text m local) (place_of local w.len.result given)) w.deref_mut.ensures.value
          ∙ ap (λ p. first_of p (place_of local w.len.result given)) (tells local)
          ∙ ap (λ n. first_of (place_of local 0 list) (place_of local n given)) long
          ∙ sym (place_of-append local 0 list given)
          ∙ ap (place_of local 0) (sym c.in_ok-push.ensures.items) in
          subst (λ o. IfSome o (λ places. TellsPlaces places.value c.push.new.self.items)) (sym w.noted-is) all
          )
      | in_default w ↦
          subst (λ o. IfSome o (λ places. TellsPlaces places.value c.push.new.self.items)) (sym (w.noted-is ∙ w.in_default.is)) tt
    ]
