use Rattle.std.proofs.Common.{◌≡◌, ◌+◌, ◌≤◌, length}
use denote.Shadow.{shadow}
use denote.Text.{Utf8}
use Rattle.std.specs.Str.Lines.{lines}
use Rattle.html_render_dom.specs.script.Scripts.{document_of, outcome_of}
use Rattle.html_render_dom.proofs.script.building.built.Given as goal

-- the remaining lines make the script's document of the one that is built
abbrev pub invariant-loop-rest : goal.invariant-loop-rest
invariant-loop-rest l = record {
  is_text : shadow (Utf8 l.rest);
  counted : l.number + length l.rest ≤ length l.script;
  wanted : outcome_of (lines l.rest) (l.number + 1) l.builder ≡ document_of l.script;
}

abbrev pub decreases-loop-rest : goal.decreases-loop-rest
decreases-loop-rest l = length l.rest
