use Rattle.std.proofs.Common.{◌≡◌, ℕ, List, take}
use Rattle.std.specs.BTreeMap.{get_by_text}
use Rattle.html_render_dom_nodes.specs.Places.{first_of, place_of}
use Rattle.html_render_dom_nodes.proofs.attributes.note_all.Given as goal

abbrev pub invariant-loop-number : goal.invariant-loop-number
invariant-loop-number l =
    (name : List ℕ) → get_by_text l.places name ≡ first_of (get_by_text l.initial.places name) (place_of name l.start (take l.number l.attrs))
