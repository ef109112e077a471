-- Each iteration of the loop adds the next rule to the index.
use Rattle.std.proofs.Common.{List, ℕ, Some, None, ◌||◌, true, length, map, option_map, string_bytes, refl, sym, ap, ◌∙◌, arith}
use Rattle.std.proofs.lemmas.List.{length-map, length-set, take_all}
use Rattle.std.proofs.lemmas.Option.{slice_get-map, slice_get_read}
use Rattle.std.specs.List.{list_any}
use Rattle.html_render_dom.specs.declared.style.index.RuleIndex.{RuleIndex}
use Rattle.html_render_dom.specs.RuleIndex.{asks_attributes, text_key}
use Rattle.html_render_dom_styles.specs.Rules.{rule_of}
use Rattle.html_render_dom.proofs.RuleIndex.{HasFirst-more, general-found, put-found}
use Rattle.html_render_dom.proofs.style.index.RuleIndex.without_styles.Goals as goal
use Rattle.html_render_dom.proofs.style.index.RuleIndex.without_styles.Goals.{in-Some+in_ok-put-in-Some, in-None+in_ok-push-in-None}

pub loop-number-preserved : goal.loop-number-preserved
loop-number-preserved c =
    let rules = map rule_of c.args.rules.now in
    let i = c.loop-number.number in
    let old = c.loop-number.index in
    let rule = c.index-rules-number.result in
    let more = λ (new : RuleIndex). HasFirst-more old new rules i (rule_of rule) c.loop-number.invariant
    (slice_get-map rule_of c.args.rules.now i ∙ ap (option_map rule_of)
    (slice_get_read c.args.rules.now (length c.args.rules.now) i rule refl c.loop-number-test.true c.index-rules-number.is)) in
    let asks = ap (λ b. old.asks_attributes || b) c.asks_attributes.ensures in
    elim c.match-stated_text.branch [
      | in-Some+in_ok-put-in-Some w ↦ (
          let text : List ℕ = string_bytes w.in-Some.text.now in
          let put = w.in_ok-put-in-Some.ensures in
          rw w.index-is (more w.put.new.self (ap length put.keys ∙ length-set old.keys.items (text_key text) true) (put.asks ∙ asks) (Some text)
          (ap (option_map (λ t. string_bytes t.now)) (sym w.in-Some.is) ∙ c.stated_text.ensures)
          (put-found old w.put.new.self text i c.loop-number.invariant.0 put.keys put.general put.numbers))
          )
      | in-None+in_ok-push-in-None w ↦ (
          let new : RuleIndex = record old { general = w.push.new.self; asks_attributes = old.asks_attributes || c.asks_attributes.result } in
          rw w.index-is (more new refl asks None (ap (option_map (λ t. string_bytes t.now)) (sym w.in-None.is) ∙ c.stated_text.ensures)
          (general-found old new i refl refl w.in_ok-push-in-None.ensures.items))
          )
    ]

pub returns : goal.returns
returns c =
    let has = c.loop-number.invariant in
    let over = c.loop-number-test.false in
    let long = length-map c.args.rules.now rule_of in (
      has.0,
      λ n d lt. has.1 n d (omega (arith, lt, over, long)),
      has.2 ∙ ap (list_any asks_attributes) (take_all c.loop-number.number (map rule_of c.args.rules.now) (omega (arith, over, long))),
    )
