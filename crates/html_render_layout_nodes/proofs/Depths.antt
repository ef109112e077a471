-- The subtrees that are open at a place in pre-order, the kept ends of the innermost ones, and a dump by their number.
use Rattle.std.proofs.Common.{◌≡◌, ◌≢◌, ℕ, zero, suc, ◌+◌, ◌-◌, ◌^◌, ◌<◌, ◌≤◌, List, [], ◌∷◌, ◌++◌, length, refl, sym, ap, subst, ◌∙◌, arith}
use Rattle.std.proofs.Common.{reverse, take, drop, get_or, append_assoc, length-append, drop-cons, inl, inr}
use Rattle.std.proofs.lemmas.Bool.Decides.{eqb_tells, leb_tells}
use Rattle.std.proofs.lemmas.List.{append-nil, reverse-append, length-take-le, take-append-le, take_all}
use Rattle.std.proofs.Math.Seq.{take-suc, take-append-add}
use Rattle.html_render_dom_values.specs.Forest.{Forest, none, node}
use Rattle.html_render_layout_nodes.specs.declared.tree.Entry.{Entry}
use Rattle.html_render_layout_nodes.specs.declared.tree.RenderNode.{RenderNode}
use Rattle.html_render_layout_nodes.specs.Depths.{end_of, with_part, open_from, open_at, ends_open_at, Keeps}
use Rattle.html_render_layout_nodes.specs.Dump.{tree_dump, tree_line}
use Rattle.html_render_layout_nodes.specs.Kinds.{kind_name}
use Rattle.html_render_layout_nodes.specs.Preorder.{flatten}

-- ---- the open subtrees among nodes in pre-order

pub with-open : (place at size : ℕ) (ends : List ℕ) → place < end_of at size → with_part place at size ends ≡ end_of at size ∷ ends
with-open place at size ends h =
    elim (leb_tells (suc place) (end_of at size)) [ inl t ↦ rw t.0 refl | inr t ↦ absurd (omega (arith, t.1, h)) ]

with-ended : (place at size : ℕ) (ends : List ℕ) → end_of at size ≤ place → with_part place at size ends ≡ ends
with-ended place at size ends h =
    elim (leb_tells (suc place) (end_of at size)) [ inl t ↦ absurd (omega (arith, t.1, h)) | inr t ↦ rw t.0 refl ]

with-append : (place at size : ℕ) (ends : List ℕ) → with_part place at size [] ++ ends ≡ with_part place at size ends
with-append place at size ends =
    elim (leb_tells (suc place) (end_of at size)) [ inl t ↦ rw t.0 refl | inr t ↦ rw t.0 refl ]

module _ {K : Type 0} where
  open-append : (place at : ℕ) (a b : List (Entry K)) →
      open_from place at (a ++ b) ≡ open_from place (at + length a) b ++ open_from place at a
  open-append place at [] b =
      ap (λ n. open_from place n b) (omega arith) ∙ sym (append-nil (open_from place (at + length {A = Entry K} []) b))
  open-append place at (e ∷ es) b =
      let next : at + 1 + length es ≡ at + length (e ∷ es) = omega arith in
      ap (λ l. l ++ with_part place at e.subtree_len []) (open-append place (at + 1) es b)
      ∙ append_assoc (open_from place (at + 1 + length es) b) (open_from place (at + 1) es) (with_part place at e.subtree_len [])
      ∙ ap (λ n. open_from place n b ++ open_from place at (e ∷ es)) next

  -- the open subtrees with one more node
  open-snoc : (place at : ℕ) (before : List (Entry K)) (e : Entry K) →
      open_from place at (before ++ e ∷ []) ≡ with_part place (at + length before) e.subtree_len (open_from place at before)
  open-snoc place at before e =
      open-append place at before (e ∷ []) ∙ with-append place (at + length before) e.subtree_len (open_from place at before)

  pub open-more : (place n : ℕ) (es : List (Entry K)) (d : Entry K) → n < length es →
      open_at place (take (n + 1) es) ≡ with_part place n (get_or es n d).subtree_len (open_at place (take n es))
  open-more place n es d h =
      let next : n + 1 ≡ suc n = omega arith in
      let long : 0 + length (take n es) ≡ n = omega (arith, length-take-le n es (omega (arith, h))) in
      ap (λ m. open_at place (take m es)) next
      ∙ ap (open_at place) (take-suc es n d h)
      ∙ open-snoc place 0 (take n es) (get_or es n d)
      ∙ ap (λ m. with_part place m (get_or es n d).subtree_len (open_at place (take n es))) long

  -- at most as many subtrees are open as there are nodes
  pub open-at-most : (place at : ℕ) (es : List (Entry K)) → length (open_from place at es) ≤ length es
  open-at-most place at [] = omega arith
  open-at-most place at (e ∷ es) =
      let rest = open-at-most place (at + 1) es in
      let more = length-append (open_from place (at + 1) es) (with_part place at e.subtree_len []) in
      elim (leb_tells (suc place) (end_of at e.subtree_len)) [
        | inl t ↦ omega (arith, rest, more, ap length (with-open place at e.subtree_len [] (omega (arith, t.1))))
        | inr t ↦ omega (arith, rest, more, ap length (with-ended place at e.subtree_len [] (omega (arith, t.1))))
      ]

  -- no subtree of a forest is open at its end
  none-open : (t : Forest K) (place at : ℕ) → at + length (flatten t) ≤ place → open_from place at (flatten t) ≡ []
  none-open none place at h = refl
  none-open (node k children beside) place at h =
      let c = flatten children in
      let b = flatten beside in
      let long = length-append c b in
      rw (
        with-ended place at (length c + 1) [] (omega (arith, long, h)),
        open-append place (at + 1) c b,
        none-open children place (at + 1) (omega (arith, long, h)),
        none-open beside place (at + 1 + length c) (omega (arith, long, h)),
      ) refl

-- ---- the subtrees that end at a place

stays : (place x : ℕ) (ends : List ℕ) → x ≢ place → ends_open_at place (ends ++ x ∷ []) ≡ ends_open_at place ends ++ x ∷ []
stays place x [] h = elim (eqb_tells x place) [ inl t ↦ absurd (h t.1) | inr t ↦ rw t.0 refl ]
stays place x (e ∷ es) h = elim (eqb_tells e place) [ inl t ↦ rw t.0 (stays place x es h) | inr t ↦ rw t.0 refl ]

all-end : (place : ℕ) (ends : List ℕ) → ends_open_at place ends ≡ [] → ends_open_at place (ends ++ place ∷ []) ≡ []
all-end place [] h = elim (eqb_tells place place) [ inl t ↦ rw t.0 refl | inr t ↦ absurd (t.1 refl) ]
all-end place (e ∷ es) h =
    elim (eqb_tells e place) [ inl t ↦ rw t.0 (all-end place es (rw t.0 at h)) | inr t ↦ absurd (let n = rw t.0 at h in cc) ]

module _ {K : Type 0} where
  -- of the subtrees that are open before a place in a forest, those that don't end there are open at it
  pub left-open : (t : Forest K) (at n : ℕ) → n ≤ length (flatten t) → at + length (flatten t) ≤ 2 ^ 64 - 1 →
      ends_open_at (at + n) (open_from (at + n - 1) at (take n (flatten t))) ≡ open_from (at + n) at (take n (flatten t))
  left-open t at zero h small = refl
  left-open none at (suc m) h small = refl
  left-open (node k children beside) at (suc m) h small =
      let c = flatten children in
      let b = flatten beside in
      let long = length-append c b in
      let size = length c + 1 in
      let p = at + suc m in
      let end : end_of at size ≡ at + size = omega (arith, long, small) in
      elim (leb_tells m (length c)) [
        | inl t ↦
            let front : take m (c ++ b) ≡ take m c = take-append-le m c b t.1 in
            let same : at + 1 + m ≡ p = omega arith in
            let below : ends_open_at p (open_from (p - 1) (at + 1) (take m c)) ≡ open_from p (at + 1) (take m c) =
            subst (λ q. ends_open_at q (open_from (q - 1) (at + 1) (take m c)) ≡ open_from q (at + 1) (take m c)) same
            (left-open children (at + 1) m t.1 (omega (arith, long, small))) in
            let opened = with-open (p - 1) at size [] (omega (arith, end, t.1)) in
            elim (eqb_tells m (length c)) [
              | inl s ↦
                  let whole : take m c ≡ c = take_all m c (omega (arith, s.1)) in
                  let none_below : open_from p (at + 1) (take m c) ≡ [] =
                  ap (open_from p (at + 1)) whole ∙ none-open children p (at + 1) (omega (arith, s.1)) in
                  let ended = with-ended p at size [] (omega (arith, end, s.1)) in
                  let last : end_of at size ≡ p = omega (arith, end, s.1) in
                  rw (front, opened, ended, none_below, last) (all-end p (open_from (p - 1) (at + 1) (take m c)) (below ∙ none_below))
              | inr s ↦
                  let later = with-open p at size [] (omega (arith, end, t.1, s.1)) in
                  rw (front, opened, later)
                  (stays p (end_of at size) (open_from (p - 1) (at + 1) (take m c)) (omega (arith, end, t.1, s.1))
                  ∙ ap (λ l. l ++ end_of at size ∷ []) below)
            ]
        | inr t ↦
            let j = m - length c in
            let inner = at + 1 + length c in
            let split : take m (c ++ b) ≡ c ++ take j b =
            ap (λ n. take n (c ++ b)) (let e : m ≡ length c + j = omega (arith, t.1) in e) ∙ take-append-add c b j in
            let same : inner + j ≡ p = omega (arith, t.1) in
            let next : ends_open_at p (open_from (p - 1) inner (take j b)) ≡ open_from p inner (take j b) =
            subst (λ q. ends_open_at q (open_from (q - 1) inner (take j b)) ≡ open_from q inner (take j b)) same
            (left-open beside inner j (omega (arith, long, h, t.1)) (omega (arith, long, small))) in
            let before : open_from (p - 1) at (take (suc m) (flatten (node k children beside))) ≡ open_from (p - 1) inner (take j b) =
            rw (
              split,
              with-ended (p - 1) at size [] (omega (arith, end, t.1)),
              open-append (p - 1) (at + 1) c (take j b),
              none-open children (p - 1) (at + 1) (omega (arith, t.1)),
            ) (append-nil _ ∙ append-nil _) in
            let after : open_from p at (take (suc m) (flatten (node k children beside))) ≡ open_from p inner (take j b) =
            rw (
              split,
              with-ended p at size [] (omega (arith, end, t.1)),
              open-append p (at + 1) c (take j b),
              none-open children p (at + 1) (omega (arith, t.1)),
            ) (append-nil _ ∙ append-nil _) in
            ap (ends_open_at p) before ∙ next ∙ sym after
      ]

module _ {K : Type 0} where
  pub left-open-whole : (t : Forest K) (es : List (Entry K)) (place : ℕ) → es ≡ flatten t → place ≤ length es → length es ≤ 2 ^ 64 - 1 →
      ends_open_at place (open_at (place - 1) (take place es)) ≡ open_at place (take place es)
  left-open-whole t es place is within small =
      let whole = left-open t 0 place (omega (arith, ap length is, within)) (omega (arith, ap length is, small)) in
      let first : 0 + place ≡ place = omega arith in
      subst (λ q. ends_open_at q (open_at (q - 1) (take place es)) ≡ open_at q (take place es)) first
      (subst (λ l. ends_open_at (0 + place) (open_at (0 + place - 1) (take place l)) ≡ open_at (0 + place) (take place l)) (sym is) whole)

-- ---- the kept ends

keeps-full : (depth : ℕ) (kept new ends : List ℕ) (end : ℕ) → Keeps depth kept ends → 0 < length kept → new ≡ drop 1 kept ++ end ∷ [] →
    Keeps (depth + 1) new (end ∷ ends)
keeps-full depth [] new ends end k some e = absurd (omega (arith, some))
keeps-full depth (x ∷ xs) new ends end k some e =
    let r : reverse new ≡ end ∷ reverse xs = ap reverse e ∙ reverse-append xs (end ∷ []) in
    let old : reverse (x ∷ xs) ≡ reverse xs ++ x ∷ [] = reverse-append (x ∷ []) xs in
    record {
      outer = x ∷ k.outer;
      is = rw r (ap (λ l. end ∷ l) (k.is ∙ ap (λ l. l ++ k.outer) old ∙ append_assoc (reverse xs) (x ∷ []) k.outer));
      depth_is = omega (arith, k.depth_is);
      some_kept = λ z. absurd (omega (arith, z, ap length e, length-append xs (end ∷ [])));
    }

pub keeps-more : (depth : ℕ) (kept new ends : List ℕ) (end : ℕ) → Keeps depth kept ends → length kept ≤ 64 →
    (length kept < 64 → new ≡ kept ++ end ∷ []) → (length kept ≡ 64 → new ≡ drop 1 kept ++ end ∷ []) →
    Keeps (depth + 1) new (end ∷ ends)
keeps-more depth kept new ends end k fits room full = elim (leb_tells 64 (length kept)) [
  | inl t ↦ keeps-full depth kept new ends end k (omega (arith, t.1)) (full (omega (arith, t.1, fits)))
  | inr t ↦
      let e : new ≡ kept ++ end ∷ [] = room (omega (arith, t.1)) in
      let r : reverse new ≡ end ∷ reverse kept = ap reverse e ∙ reverse-append kept (end ∷ []) in
      record {
        outer = k.outer;
        is = rw r (ap (λ l. end ∷ l) k.is);
        depth_is = omega (arith, k.depth_is);
        some_kept = λ z. absurd (omega (arith, z, ap length e, length-append kept (end ∷ [])));
      }
]

-- ---- leaving subtrees

-- the depth and the kept ends while subtrees that end at a place are removed; `ends` are those of the subtrees that stay
pub record Leaving (depth : ℕ) (kept : List ℕ) (place : ℕ) (ends : List ℕ) : Type 0 where
  pub outer : List ℕ
  pub depth_is : depth ≡ length kept + length outer
  pub stay : ends_open_at place (reverse kept ++ outer) ≡ ends

-- ---- a dump by the number of open subtrees

-- the lines of nodes after others
abbrev pub lines : (before es : List (Entry RenderNode)) → List ℕ
lines before [] = []
lines before (e ∷ es) = tree_line (length (open_at (length before) before)) (kind_name e.node.kind) ++ lines (before ++ e ∷ []) es

lines-flatten : (t : Forest RenderNode) (before es : List (Entry RenderNode)) (ends : List ℕ) → length before + length (flatten t) ≤ 2 ^ 64 - 1 →
    ((q : ℕ) → length before ≤ q → q < length before + length (flatten t) → open_at q before ≡ ends) →
    lines before (flatten t ++ es) ≡ tree_dump (length ends) t ++ lines (before ++ flatten t) es
lines-flatten none before es ends small h = ap (λ l. lines l es) (sym (append-nil before))
lines-flatten (node k children beside) before es ends small h =
    let c = flatten children in
    let b = flatten beside in
    let long = length-append c b in
    let n = length before in
    let size = length c + 1 in
    let e : Entry RenderNode = record { node = k; subtree_len = size } in
    let opened = before ++ e ∷ [] in
    let depth = length ends in
    let first = tree_line depth (kind_name k.kind) in
    let end : end_of n size ≡ n + size = omega (arith, long, small) in
    let opened_long : length opened ≡ n + 1 = omega (arith, length-append before (e ∷ [])) in
    let closed_long : length (opened ++ c) ≡ n + 1 + length c = omega (arith, opened_long, length-append opened c) in
    let here : length (open_at n before) ≡ depth = ap length (h n (omega arith) (omega arith)) in
    let inside : (q : ℕ) → length opened ≤ q → q < length opened + length c → open_at q opened ≡ end_of n size ∷ ends =
    λ q low high. open-snoc q 0 before e
    ∙ ap (λ m. with_part q m size (open_at q before)) (let z : 0 + n ≡ n = omega arith in z)
    ∙ with-open q n size (open_at q before) (omega (arith, end, high, opened_long))
    ∙ ap (λ l. end_of n size ∷ l) (h q (omega (arith, low, opened_long)) (omega (arith, high, opened_long, long))) in
    let past : (q : ℕ) → length (opened ++ c) ≤ q → q < length (opened ++ c) + length b → open_at q (opened ++ c) ≡ ends =
    λ q low high. open-append q 0 opened c
    ∙ ap (λ l. l ++ open_at q opened) (none-open children q (0 + length opened) (omega (arith, low, opened_long, closed_long)))
    ∙ open-snoc q 0 before e
    ∙ ap (λ m. with_part q m size (open_at q before)) (let z : 0 + n ≡ n = omega arith in z)
    ∙ with-ended q n size (open_at q before) (omega (arith, end, low, closed_long))
    ∙ h q (omega (arith, low, closed_long)) (omega (arith, high, closed_long, long)) in
    let below = lines-flatten children opened (b ++ es) (end_of n size ∷ ends) (omega (arith, opened_long, long, small)) inside in
    let next = lines-flatten beside (opened ++ c) es ends (omega (arith, closed_long, long, small)) past in
    let deeper : length (end_of n size ∷ ends) ≡ depth + 1 = omega arith in
    let dc = tree_dump (depth + 1) children in
    let db = tree_dump depth beside in
    let whole : (opened ++ c) ++ b ≡ before ++ e ∷ (c ++ b) =
    append_assoc opened c b ∙ append_assoc before (e ∷ []) (c ++ b) in
    rw here (ap (λ l. first ++ lines opened l) (append_assoc c b es)
    ∙ ap (λ l. first ++ l) (below ∙ ap (λ d. tree_dump d children ++ lines (opened ++ c) (b ++ es)) deeper
    ∙ ap (λ l. dc ++ l) (next ∙ ap (λ l. db ++ lines l es) whole)
    ∙ sym (append_assoc dc db _))
    ∙ sym (append_assoc first (dc ++ db) _))

pub lines-whole : (t : Forest RenderNode) → length (flatten t) ≤ 2 ^ 64 - 1 → lines [] (flatten t) ≡ tree_dump 0 t
lines-whole t small =
    ap (lines []) (sym (append-nil (flatten t)))
    ∙ lines-flatten t [] [] [] (omega (arith, small)) (λ q low high. refl) ∙ append-nil (tree_dump 0 t)

-- the lines after some nodes begin with that of the next node
pub lines-more : (es : List (Entry RenderNode)) (n depth : ℕ) (e : Entry RenderNode) → n < length es → e ≡ get_or es n e →
    depth ≡ length (open_at n (take n es)) →
    lines (take n es) (drop n es) ≡ tree_line depth (kind_name e.node.kind) ++ lines (take (n + 1) es) (drop (n + 1) es)
lines-more es n depth e h is deep =
    let next : suc n ≡ n + 1 = omega arith in
    let long : length (take n es) ≡ n = length-take-le n es (omega (arith, h)) in
    let there : drop n es ≡ e ∷ drop (n + 1) es = drop-cons es n e h ∙ ap (λ x. x ∷ drop (suc n) es) (sym is) ∙ ap (λ m. e ∷ drop m es) next in
    let done : take n es ++ e ∷ [] ≡ take (n + 1) es =
    ap (λ x. take n es ++ x ∷ []) is ∙ sym (take-suc es n e h) ∙ ap (λ m. take m es) next in
    let depth_is : length (open_at (length (take n es)) (take n es)) ≡ depth = ap (λ m. length (open_at m (take n es))) long ∙ sym deep in
    ap (lines (take n es)) there
    ∙ ap (λ d. tree_line d (kind_name e.node.kind) ++ lines (take n es ++ e ∷ []) (drop (n + 1) es)) depth_is
    ∙ ap (λ l. tree_line depth (kind_name e.node.kind) ++ lines l (drop (n + 1) es)) done
