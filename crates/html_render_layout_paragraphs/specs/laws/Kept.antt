-- Feeding keeps the setting of a paragraph.
use Rattle.std.proofs.Common.{◌≡◌, List, [], ◌∷◌, Option, None, Some, is_some, refl, ◌∙◌, IfSome, option_map}
use Rattle.html_render_dom_values.specs.WhiteSpace.{preserves}
use Rattle.html_render_layout_lines.specs.declared.character.Kind.{Kind}
use Rattle.html_render_layout_lines.specs.declared.character.Kind.TheVariants.{Letter, Space, Divider, Dropped}
use Rattle.html_render_layout_lines.specs.declared.character.Character.{Character}
use Rattle.html_render_layout_lines.specs.declared.character.Item.{Item}
use Rattle.html_render_layout_lines.specs.declared.character.Item.TheVariants as item
use Rattle.html_render_layout_lines.specs.Character.{kind}
use Rattle.html_render_layout_paragraphs.specs.Paragraph.{LineBuffer, Setting, put_single, page_for_single}
use Rattle.html_render_layout_paragraphs.specs.Placing.{put_word}
use Rattle.html_render_layout_paragraphs.specs.Stream.{State, end_word, joins, begin_word, single_step, then_single, with_pending, character_step}
use Rattle.html_render_layout_paragraphs.specs.Stream.{step, after}
use Rattle.html_render_layout_lines.specs.laws.Cases.{bind_some, map_if, if_cases}

abbrev Has : {T M : Type 0} → Setting → State T M → Type 0
Has s t = t.setting ≡ s

page_has : {T M : Type 0} (s : Setting) (f : LineBuffer T M → State T M) (o : Option (LineBuffer T M)) → ((p : LineBuffer T M) → Has s (f p)) →
    IfSome (option_map f o) (Has s)
page_has s f None k = tt
page_has s f (Some p) k = k p

end_has : {T M : Type 0} (st : State T M) → IfSome (end_word st) (Has st.setting)
end_has {T} {M} st = if_cases (λ o. IfSome o (Has st.setting)) (is_some st.open_word) _ _
    (λ _. page_has st.setting _ (put_word st.setting st.page st.pending st.word) (λ p. refl)) (λ _. refl)

single_has : {T M : Type 0} (st : State T M) (k : Kind) (c : Character T) → IfSome (then_single st k c) (Has st.setting)
single_has {T} {M} st k c =
    bind_some (Has st.setting) (Has st.setting) (λ (t : State T M). single_step t k c) (end_word st) (end_has st)
    (λ t h. page_has st.setting _ (put_single t.setting (page_for_single t.setting t.page t.pending k) k c) (λ p. h))

character_has : {T M : Type 0} (k : Kind) (st : State T M) (c : Character T) → IfSome (character_step k st c) (Has st.setting)
character_has {T} {M} Letter st c = if_cases (λ o. IfSome o (Has st.setting)) (joins st.open_word (preserves c.mode)) _ _ (λ _. refl)
    (λ _. map_if (Has st.setting) (Has st.setting) (λ (t : State T M). begin_word t c) (end_word st) (end_has st) (λ t h. h))
character_has {T} {M} Space st c =
    map_if (Has st.setting) (Has st.setting) (λ (t : State T M). with_pending t c) (end_word st) (end_has st) (λ t h. h)
character_has Divider st c = end_has st
character_has Dropped st c = refl
character_has k st c = single_has st k c

pub setting-step : {T M : Type 0} (st : State T M) (x : Item T M) → IfSome (step st x) (λ t. t.setting ≡ st.setting)
setting-step st (item.Character c) = character_has (kind c.mode c.code) st c
setting-step st (item.Mark m) = if_cases (Has st.setting) (is_some st.open_word) _ _ (λ _. refl) (λ _. refl)

pub setting-after : {T M : Type 0} (st : State T M) (xs : List (Item T M)) → IfSome (after st xs) (λ t. t.setting ≡ st.setting)
setting-after st [] = refl
setting-after {T} {M} st (x ∷ xs) =
    bind_some (Has st.setting) (Has st.setting) (λ (t : State T M). after t xs) (step st x) (setting-step st x)
    (λ t h. by t (after t xs) (setting-after t xs) h)
  where
    by : (t : State T M) (o : Option (State T M)) → IfSome o (Has t.setting) → t.setting ≡ st.setting → IfSome o (Has st.setting)
    by t None k h = tt
    by t (Some u) k h = k ∙ h
