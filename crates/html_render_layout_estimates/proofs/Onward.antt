-- Invariants of adding words to one table after another.
use Rattle.std.proofs.Common.{◌≡◌, ℕ, ◌+◌, ◌<◌, ◌≤◌, false, List, [], ◌∷◌, ◌++◌, length, take, drop, get_or, suc}
use Rattle.std.proofs.Common.{refl, sym, ap, ◌∙◌, arith, append_assoc, append-nil, length-append, length-drop}
use Rattle.std.proofs.lemmas.Bool.{true≢false}
use Rattle.std.proofs.lemmas.List.{drop-drop, drop_all, get_or-drop, take_all, take_more}
use Rattle.std.proofs.lemmas.Slice.{take-put_mid, drop-put_mid}
use Rattle.std.proofs.Math.Seq.{take-append_seam, drop-append_seam}
use borrow.Rule.Slice.PartMut.{put_mid}
use Rattle.html_render_dom_values.specs.Forest.{Forest, none, node, followed_by}
use Rattle.html_render_layout_nodes.specs.declared.tree.Entry.{Entry}
use Rattle.html_render_layout_nodes.specs.declared.tree.NodeKind.{NodeKind}
use Rattle.html_render_layout_nodes.specs.declared.tree.NodeKind.TheVariants.{Table}
use Rattle.html_render_layout_nodes.specs.declared.tree.RenderNode.{RenderNode}
use Rattle.html_render_layout_nodes.specs.Preorder.{flatten, forest_of}
use Rattle.html_render_layout_nodes.specs.laws.Preorder.{flatten-followed_by, IsPreorderOf, IsPreorderOf-flatten}
use Rattle.html_render_layout_estimates.specs.declared.settings.LayoutSettings.{LayoutSettings}
use Rattle.html_render_layout_estimates.specs.declared.words.WordShape.{WordShape}
use Rattle.html_render_layout_estimates.specs.Passes.{is_table}
use Rattle.html_render_layout_estimates.specs.Words.{worded_kind, shapes, worded}
use Rattle.html_render_layout_estimates.specs.WordSteps.{worded_node, node_shape}
use Rattle.html_render_layout_estimates.proofs.Backward.{shaped, changed}

-- a node that is no table stays as it is
unworded : (kind : NodeKind) (below : Forest WordShape) → is_table kind ≡ false → worded_kind kind below ≡ kind
unworded (Table grid) below plain = absurd (true≢false plain)
unworded kind below plain = refl

module _ (settings : LayoutSettings) where
  -- the nodes with words, and their shapes, as a change from the last node to the first makes them
  abbrev shape : RenderNode → Forest WordShape → WordShape
  shape n below = node_shape settings (worded_node n below) below

  shaped_shapes : (t : Forest RenderNode) → shaped worded_node shape t ≡ shapes settings t
  shaped_shapes none = refl
  shaped_shapes (node n children beside) = cc (shaped_shapes children, shaped_shapes beside)

  pub changed_worded : (t : Forest RenderNode) → changed worded_node shape t ≡ worded settings t
  changed_worded none = refl
  changed_worded (node n children beside) = cc (shaped_shapes children, changed_worded children, changed_worded beside)

  length-worded : (t : Forest RenderNode) → length (flatten (worded settings t)) ≡ length (flatten t)
  length-worded none = refl
  length-worded (node n children beside) = omega (arith, length-append {A = Entry RenderNode}, length-worded children, length-worded beside)

  worded-followed_by : (t u : Forest RenderNode) → worded settings (followed_by t u) ≡ followed_by (worded settings t) (worded settings u)
  worded-followed_by none u = refl
  worded-followed_by (node n children beside) u =
      ap (λ f. node (worded_node n (shapes settings children)) (worded settings children) f) (worded-followed_by beside u)

  -- whether the nodes before `at` are final, and those from `at` on are those of a forest without words
  pub record Onward (t : Forest RenderNode) (now : List (Entry RenderNode)) (at : ℕ) : Type 0 where
    pub rest : Forest RenderNode
    pub ahead : drop at now ≡ flatten rest
    pub wanted : take at now ++ flatten (worded settings rest) ≡ flatten (worded settings t)

  -- whether the node at `at` is the first of such a forest; `tree` is a part of all nodes
  pub record Reached (t : Forest RenderNode) (now : List (Entry RenderNode)) (at : ℕ) (e : Entry RenderNode) : Type 0 where
    pub children : Forest RenderNode
    pub beside : Forest RenderNode
    pub here : e ≡ get_or now at e
    pub subtree_len : e.subtree_len ≡ length (flatten children) + 1
    pub ahead : drop at now ≡ flatten (node e.node children beside)
    pub wanted : take at now ++ flatten (worded settings (node e.node children beside)) ≡ flatten (worded settings t)
    pub end : at + e.subtree_len ≤ length now
    pub tree : IsPreorderOf (take e.subtree_len (drop at now)) (node e.node children none)

  no-more : (rest : Forest RenderNode) → flatten rest ≡ [] → flatten (worded settings rest) ≡ []
  no-more none e = refl
  no-more (node n children beside) e = absurd (cc e)

  pub Onward-done : (t : Forest RenderNode) (now : List (Entry RenderNode)) (at : ℕ) → Onward t now at → length now ≤ at →
      now ≡ flatten (worded settings t)
  Onward-done t now at w past =
      sym (take_all at now past) ∙ sym (append-nil (take at now))
      ∙ ap (λ l. take at now ++ l) (sym (no-more w.rest (sym w.ahead ∙ drop_all at now past))) ∙ w.wanted

  reached : (t rest : Forest RenderNode) (now : List (Entry RenderNode)) (at : ℕ) (e : Entry RenderNode) →
      drop at now ≡ flatten rest → take at now ++ flatten (worded settings rest) ≡ flatten (worded settings t) →
      at < length now → e ≡ get_or now at e → Reached t now at e
  reached t none now at e ahead wanted within is = absurd (omega (arith, ap length ahead, length-drop at now))
  reached t (node n children beside) now at e ahead wanted within is =
      let below : List (Entry RenderNode) = flatten children in
      let first : Entry RenderNode = record { node = n; subtree_len = length below + 1 } in
      let zero_on : at ≡ at + 0 = omega arith in
      let same : e ≡ first = is ∙ ap (λ m. get_or now m e) zero_on ∙ sym (get_or-drop at now 0 e) ∙ ap (λ l. get_or l 0 e) ahead in
      let top : n ≡ e.node = sym (ap (λ (x : Entry RenderNode). x.node) same) in
      let size : e.subtree_len ≡ length below + 1 = ap (λ (x : Entry RenderNode). x.subtree_len) same in
      let size_suc : e.subtree_len ≡ suc (length below) = omega (arith, size) in
      let long : length (drop at now) ≡ length below + length (flatten beside) + 1 =
      ap length ahead ∙ omega (arith, length-append below (flatten beside)) in
      let there : drop at now ≡ flatten (node e.node children beside) = ahead ∙ ap (λ m. flatten (node m children beside)) top in
      record {
        children = children;
        beside = beside;
        here = is;
        subtree_len = size;
        ahead = there;
        wanted = ap (λ m. take at now ++ flatten (worded settings (node m children beside))) (sym top) ∙ wanted;
        end = omega (arith, size, long, length-drop at now);
        tree = IsPreorderOf-flatten (take e.subtree_len (drop at now)) (node e.node children none)
            (ap (λ l. take e.subtree_len l) there
            ∙ ap (λ m. take m (flatten (node e.node children beside))) size_suc
            ∙ ap (λ l. record { node = e.node; subtree_len = length below + 1 } ∷ l)
            (take-append_seam below (flatten beside) ∙ sym (append-nil below)));
      }

  pub Onward-at : (t : Forest RenderNode) (now : List (Entry RenderNode)) (at : ℕ) (e : Entry RenderNode) →
      Onward t now at → at < length now → e ≡ get_or now at e → Reached t now at e
  Onward-at t now at e w within is = reached t w.rest now at e w.ahead w.wanted within is

  -- the first entry of a worded tree
  abbrev worded_first : RenderNode → (children : Forest RenderNode) → Entry RenderNode
  worded_first n children = record { node = worded_node n (shapes settings children); subtree_len = length (flatten (worded settings children)) + 1 }

  -- a node that is no table stays as it is
  pub Onward-past : (t : Forest RenderNode) (now : List (Entry RenderNode)) (at : ℕ) (e : Entry RenderNode) →
      Reached t now at e → is_table e.node.kind ≡ false → Onward t now (at + 1)
  Onward-past t now at e f plain =
      let next : Forest RenderNode = followed_by f.children f.beside in
      let behind : List (Entry RenderNode) = flatten (worded settings f.children) ++ flatten (worded settings f.beside) in
      let size : length (flatten (worded settings f.children)) + 1 ≡ e.subtree_len = omega (arith, length-worded f.children, f.subtree_len) in
      let stays : e ≡ worded_first e.node f.children =
      ap (λ m. record { node = e.node; subtree_len = m }) (sym size)
      ∙ ap (λ k. record { node = record e.node { kind = k }; subtree_len = length (flatten (worded settings f.children)) + 1 })
      (sym (unworded e.node.kind (shapes settings f.children) plain)) in
      let words : flatten (worded settings next) ≡ behind =
      ap flatten (worded-followed_by f.children f.beside) ∙ flatten-followed_by (worded settings f.children) (worded settings f.beside) in
      let before : take (at + 1) now ≡ take at now ++ e ∷ [] =
      take_more now at e (omega (arith, f.end, f.subtree_len)) ∙ ap (λ x. take at now ++ x ∷ []) (sym f.here) in
      record {
        rest = next;
        ahead = sym (drop-drop 1 at now) ∙ ap (drop 1) f.ahead ∙ sym (flatten-followed_by f.children f.beside);
        wanted = ap (λ l. l ++ flatten (worded settings next)) before
            ∙ ap (λ l. (take at now ++ e ∷ []) ++ l) words
            ∙ append_assoc (take at now) (e ∷ []) behind
            ∙ ap (λ x. take at now ++ (x ∷ behind)) stays
            ∙ f.wanted;
      }

  -- after a table gets its words with all nodes below it
  pub Onward-table : (t : Forest RenderNode) (now : List (Entry RenderNode)) (at n : ℕ) (e : Entry RenderNode) (part : List (Entry RenderNode)) →
      Reached t now at e → n ≡ e.subtree_len → part ≡ flatten (worded settings (forest_of (take n (drop at now)))) →
      Onward t (put_mid at n now part) (at + e.subtree_len)
  Onward-table t now at n e part f all is =
      let words : List (Entry RenderNode) = flatten (worded settings f.children) in
      let after : List (Entry RenderNode) = flatten (worded settings f.beside) in
      let first : Entry RenderNode = worded_first e.node f.children in
      let part_is : part ≡ first ∷ words =
      is ∙ ap (λ m. flatten (worded settings (forest_of (take m (drop at now))))) all
      ∙ ap (λ u. flatten (worded settings u)) f.tree.is ∙ ap (λ l. first ∷ l) (append-nil words) in
      let many : length part ≡ n = omega (arith, ap length part_is, length-worded f.children, f.subtree_len, all) in
      let below : at ≤ length now = omega (arith, f.end) in
      let size_suc : e.subtree_len ≡ suc (length (flatten f.children)) = omega (arith, f.subtree_len) in
      record {
        rest = f.beside;
        ahead = drop-put_mid at n now part (at + e.subtree_len) (omega (arith, all)) below many
            ∙ sym (drop-drop e.subtree_len at now) ∙ ap (λ l. drop e.subtree_len l) f.ahead
            ∙ ap (λ m. drop m (flatten (node e.node f.children f.beside))) size_suc
            ∙ drop-append_seam (flatten f.children) (flatten f.beside);
        wanted = ap (λ l. l ++ after) (take-put_mid at n now part (at + e.subtree_len) (omega (arith, all, many)) below)
            ∙ append_assoc (take at now) part after
            ∙ ap (λ l. take at now ++ (l ++ after)) part_is
            ∙ f.wanted;
      }
