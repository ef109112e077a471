-- What the style of an element says where it is preformatted, and where it isn't displayed.
use Rattle.std.proofs.Common.{◌≡◌, ℕ, Bool, true, false, ◌||◌, if◌then◌else◌, List, [], ◌∷◌, ◌++◌, codes, Option, None, is_some, option_to_list, refl, sym, ap, ◌∙◌}
use Rattle.std.specs.Str.{bytes_eq}
use Rattle.html_render_dom_styles.specs.Cascade.{winner}
use Rattle.html_render_dom.specs.declared.style.computed.ComputedStyle.{ComputedStyle}
use Rattle.html_render_dom_styles.specs.Specificities.{no_specificity}
use Rattle.html_render_dom_values.specs.declared.white_space.WhiteSpace.{WhiteSpace}
use Rattle.html_render_dom_styles.specs.declared.specificities.Specificity.{Specificity}
use Rattle.html_render_dom_styles.specs.declared.updates.Update.{Update}
use Rattle.html_render_dom_styles.specs.laws.Winners.{winner-one}
use Rattle.html_render_dom.specs.ElementStyle.{element_style}
use Rattle.html_render_dom_nodes.specs.Content.{html}
use Rattle.html_render_dom_styles.specs.Rules.{Rule}
use Rattle.html_render_tree_convert.specs.declared.mapping.ElementKind.{ElementKind}
use Rattle.html_render_tree_convert.specs.declared.mapping.IfEmpty.{IfEmpty}
use Rattle.html_render_tree_convert.specs.declared.mapping.Mapping.{Mapping}
use Rattle.html_render_tree_convert.specs.declared.mapping.Mapping.TheVariants.{Parent}
use Rattle.html_render_tree_convert.specs.declared.plans.Plan.TheVariants as plan
use Rattle.html_render_tree_convert.specs.Conversion.{html_mapping, last_white_space, own_style, preformatted_style}
use Rattle.html_render_tree_convert.specs.KnownElements.{html_element_mapping, named_plan}
use Rattle.html_render_tree_convert.specs.Plans.{displayed_plan, element_of, element_plan}

-- `pre` gives its style an update of the least specificity after those of all rules
pub preformatted : (style : ComputedStyle) (least : Specificity) (new : Option (Update WhiteSpace)) → least ≡ no_specificity →
    ((updates : List (Update WhiteSpace)) → style.white_space ≡ winner updates →
    new ≡ winner (updates ++ record last_white_space { specificity = least } ∷ [])) →
    record style { white_space = new; internal_pre = true } ≡ preformatted_style style
preformatted style least new e takes =
    let before = option_to_list style.white_space in
    ap (λ w. record style { white_space = w; internal_pre = true })
    (takes before (sym (winner-one style.white_space))
    ∙ ap (λ s. winner (before ++ record last_white_space { specificity = s } ∷ [])) e)

pub not_displayed : (mapping : Mapping) (mark : Option (List ℕ)) (style : ComputedStyle) → is_some style.display ≡ true →
    element_plan mapping mark style ≡ plan.Nothing
not_displayed mapping mark style h = ap (λ b. if b then plan.Nothing else displayed_plan mapping mark style) h

-- the mapping of an element that isn't mapped apart
mapped : {X : Type 0} (a i w : Bool) (x y z r : X) → (a || (i || w)) ≡ false → (if a then x else if i then y else if w then z else r) ≡ r
mapped false false false x y z r e = refl
mapped true i w x y z r e = cc
mapped false true w x y z r e = cc
mapped false false true x y z r e = cc

-- the plan of an element of HTML without attributes of a known style
pub styled : (rules : List Rule) (name : List ℕ) (kind : ElementKind) (if_empty : IfEmpty) (s : ComputedStyle) →
    (bytes_eq name (codes "a") || (bytes_eq name (codes "img") || bytes_eq name (codes "wbr"))) ≡ false → bytes_eq name (codes "pre") ≡ false →
    s ≡ element_style rules name [] → is_some s.display ≡ false → html_mapping name [] ≡ Parent kind if_empty →
    named_plan rules name ≡ plan.Over (element_of kind if_empty None s) true
styled rules name kind if_empty s a p e d m =
    let own : own_style rules (record { space = html; local = name }) [] ≡ s =
    ap (λ b. if b then preformatted_style (element_style rules name []) else element_style rules name []) p ∙ sym e in
    let is : html_element_mapping name [] ≡ Parent kind if_empty =
    mapped (bytes_eq name (codes "a")) (bytes_eq name (codes "img")) (bytes_eq name (codes "wbr")) _ _ _ (html_mapping name []) a ∙ m in
    ap (λ x. element_plan x None (own_style rules (record { space = html; local = name }) [])) is ∙ ap (element_plan (Parent kind if_empty) None) own
    ∙ ap (λ b. if b then plan.Nothing else displayed_plan (Parent kind if_empty) None s) d
