-- Each iteration of the loop appends the numbers under the next text; at the end they are sorted.
use Rattle.std.proofs.Common.{◌≡◌, ℕ, [], ◌++◌, List, get_or, Bor, take, ap, subst, sym, ◌∙◌}
use Rattle.std.specs.List.{flat_map, Contains}
use Rattle.std.proofs.lemmas.List.{flat_map_more, take_all, take_more}
use Rattle.std.proofs.lemmas.List.Elements.{Contains-append_left, Contains-append_right, Contains-get_or}
use Rattle.std.proofs.lemmas.List.Filters.{dedup_is}
use Rattle.std.proofs.lemmas.List.Kept.{Any-dedup, Contains-dedup_nat}
use Rattle.std.proofs.lemmas.List.Sorted.{Contains-permutation}
use Rattle.std.proofs.lemmas.Map.Keys.{IsStrictlyIncreasing-dedup}
use Rattle.std.proofs.lemmas.Cmp.{nat_list_eq_equiv, on_equiv}
use Rattle.std.proofs.lemmas.Slice.Eq.{bytes_eq-Decides}
use Rattle.html_render_dom.specs.laws.Members.{Contains-flat_map}
use Rattle.html_render_dom.specs.RuleIndex.{numbers_under}
use Rattle.html_render_dom.proofs.style.index.RuleIndex.numbers.Goals as goal

pub loop-text-preserved : goal.loop-text-preserved
loop-text-preserved c =
    let under = λ (t : Bor (List ℕ)). numbers_under c.args.self.now t.now in
    let texts = c.deref-text-items.result.now in
    let i = c.loop-text.text-index in
    let none : Bor (List ℕ) = record { ref_ptr = (0, 0); now = [] } in
    let general = c.args.self.now.general.items in
    c.in_ok-add_numbers.ensures
    ∙ ap (λ ns. ns ++ under (get_or texts i none)) c.loop-text.invariant
    ∙ flat_map_more under general (take i texts) (get_or texts i none)
    ∙ ap (λ ts. general ++ flat_map under ts) (sym (take_more texts i none c.loop-text-test.true))

-- each number that was appended is kept
kept : (c : goal.After-drop-texts-2) (number : ℕ) →
    Contains (c.args.self.now.general.items ++ flat_map (λ t. numbers_under c.args.self.now t.now) c.dedup.new.self.items) number →
    Contains c.dedup-2.new.self.items number
kept c number held =
    let texts = take_all c.loop-text.text-index c.deref-text-items.result.now c.loop-text-test.false ∙ c.deref-text-items.ensures.value in
    let is = c.loop-text.invariant ∙ ap (λ ts. c.args.self.now.general.items ++ flat_map (λ t. numbers_under c.args.self.now t.now) ts) texts in
    rw (dedup_is _ _ _ c.dedup-2.ensures.filtered)
    (Contains-dedup_nat _ number (Contains-permutation _ _ number c.sort_unstable-2.ensures.permutation (rw is held)))

pub returns-clause-found : goal.returns-clause-found
returns-clause-found c = λ k d lt j e fits.
    let under = λ (t : Bor (List ℕ)). numbers_under c.args.self.now t.now in
    let text = get_or c.args.texts.items k d in
    let number = get_or (under text) j e in
    let sorted = c.sort_unstable.new.self.items in
    let other = Any-dedup (on_equiv (λ t. t.now) nat_list_eq_equiv) sorted text
    (Contains-permutation c.args.texts.items sorted text c.sort_unstable.ensures.permutation (Contains-get_or c.args.texts.items k d lt)) in
    let same : text.now ≡ other.1.now = (bytes_eq-Decides text.now other.1.now).0 other.4 in
    kept c number (Contains-append_right c.args.self.now.general.items _ number
    (Contains-flat_map under c.dedup.new.self.items other.1 number
    (rw (dedup_is _ _ _ c.dedup.ensures.filtered) (other.0, other.2, other.3))
    (subst (λ t. Contains (numbers_under c.args.self.now t) number) same (Contains-get_or (under text) j e fits))))

pub returns-clause-general : goal.returns-clause-general
returns-clause-general c = λ k d lt.
    let general = c.args.self.now.general.items in
    kept c (get_or general k d) (Contains-append_left general _ (get_or general k d) (Contains-get_or general k d lt))

pub returns-clause-ascending : goal.returns-clause-ascending
returns-clause-ascending c =
    let is = dedup_is _ _ _ c.dedup-2.ensures.filtered in
    rw is (IsStrictlyIncreasing-dedup _ c.sort_unstable-2.ensures.sorted)
