use Rattle.std.proofs.Common.{◌≡◌, ℕ, ◌-◌, List, ◌++◌, length, take, drop, sym, ap, ◌∙◌, append_assoc, take-append-drop}
use Rattle.std.proofs.lemmas.List.{take_rest}
use Rattle.std.proofs.KnownBytes.{Appends-trans, Appends-kept}
use Rattle.html_render_tree.proofs.htree.streams.write_bytes.Goals.{in-Ok, in-Err+else-ne}
use Rattle.html_render_tree.proofs.htree.streams.write_bytes.Goals as goal

-- the bytes that this write took follow those that were appended before
moves_front : (all done rest : List ℕ) (n : ℕ) → all ≡ done ++ rest → all ≡ (done ++ take n rest) ++ take (length rest - n) (drop n rest)
moves_front all done rest n e =
    e ∙ ap (λ l. done ++ l) (sym (take-append-drop n rest)) ∙ sym (append_assoc done (take n rest) (drop n rest)) ∙ ap (λ l. (done ++ take n rest) ++ l) (sym (take_rest rest n))

pub loop-preserved : goal.loop-preserved
loop-preserved g c =
    let (done, split, appended) = c.loop.invariant in
    let rest = c.loop.rest.now in
    elim c.match-write.branch [
      | in-Ok w ↦
          let n = w.in-Ok.count in (
            done ++ take n rest,
            moves_front _ done rest n split ∙ ap (λ r. (done ++ take n rest) ++ r.now) (sym w.rest-is),
            Appends-trans _ _ _ _ _ appended w.in-Ok.ensures.bytes,
          )
      | in-Err+else-ne w ↦
          (done, split ∙ ap (λ r. done ++ r.now) (sym w.rest-is), Appends-kept _ _ _ _ appended w.in-Err.ensures.bytes)
    ]
