use Rattle.std.proofs.Common.{◌+◌, ◌-◌, ◌∷◌, drop, take, sym, ap, ◌∙◌, subst}
use Rattle.std.proofs.lemmas.List.{drop_more}
use Rattle.std.proofs.lemmas.Str.{IsCharBoundary-from_drop}
use Rattle.html_render_layout_lines.specs.laws.Runs.{IsUtf8-Cuts, run-end}
use Rattle.html_render_layout_lines.specs.TaggedText.{Cuts}
use Rattle.html_render_layout_paragraphs.specs.Feeding.{put_runs}
use Rattle.html_render_layout_paragraphs.specs.Stream.{on_page}
use Rattle.html_render_layout_paragraphs.proofs.WordColumns.{text-placed}
use Rattle.html_render_layout_paragraphs.proofs.paragraph.Paragraph.put_runs.Goals as goal
use Rattle.html_render_layout_paragraphs.proofs.paragraph.Paragraph.put_runs.Goals.{in-Text+in_ok-put_characters-in-Text, in-Mark+in_ok-hold_mark-in-Mark}

pub range-requires-clause-start_boundary : goal.range-requires-clause-start_boundary
range-requires-clause-start_boundary g c =
    λ _. IsCharBoundary-from_drop c.args.text.now c.loop-run.at c.loop-run.invariant.within
    (IsUtf8-Cuts (drop c.loop-run.run-index c.args.runs.now) _ c.loop-run.invariant.cuts)

pub range-requires-clause-end_boundary : goal.range-requires-clause-end_boundary
range-requires-clause-end_boundary g c =
    run-end c.args.runs.now c.loop-run.run-index c.loop-run.at c.in-Text.len c.in-Text.style c.args.text.now c.run-item.result
    c.loop-run-test.true c.run-item.is c.in-Text.is c.loop-run.invariant.within c.loop-run.invariant.cuts

pub loop-run-preserved : goal.loop-run-preserved
loop-run-preserved g c =
    let was = c.loop-run.invariant in
    let next = drop_more c.args.runs.now c.loop-run.run-index c.run-item.result c.loop-run-test.true in
    let first = next ∙ ap (λ r. r ∷ drop (c.loop-run.run-index + 1) c.args.runs.now) (sym c.run-item.is) in
    elim c.match-run.branch [
      | in-Text+in_ok-put_characters-in-Text w ↦
          let rest = text-placed _ c.loop-run.self w.put_characters.new.self _ _ c.args.text.now w.range.result.now c.loop-run.at w.in-Text.len _ w.in-Text.style
          was.within was.cuts was.same (first ∙ ap (λ r. r ∷ drop (c.loop-run.run-index + 1) c.args.runs.now) w.in-Text.is) w.at-is
          (w.range.ensures.value ∙ ap (λ k. take (k - c.loop-run.at) (drop c.loop-run.at c.args.text.now)) (sym w.at-is))
          w.in_ok-put_characters-in-Text.ensures.ok in
          rw w.self-is (record { within = rest.0; cuts = rest.1; same = rest.2 })
      | in-Mark+in_ok-hold_mark-in-Mark w ↦
          let mark = first ∙ ap (λ r. r ∷ drop (c.loop-run.run-index + 1) c.args.runs.now) w.in-Mark.is in
          rw (w.self-is, w.at-is) (record {
            within = was.within;
            cuts = subst (λ rs. Cuts rs (drop c.loop-run.at c.args.text.now)) mark was.cuts;
            same = was.same ∙ ap (λ rs. on_page c.loop-run.self (put_runs c.loop-run.self.setting c.loop-run.self.page rs (drop c.loop-run.at c.args.text.now))) mark
                ∙ ap (λ t. on_page t (put_runs t.setting t.page (drop (c.loop-run.run-index + 1) c.args.runs.now) (drop c.loop-run.at c.args.text.now)))
                (sym w.in_ok-hold_mark-in-Mark.ensures);
          })
    ]
