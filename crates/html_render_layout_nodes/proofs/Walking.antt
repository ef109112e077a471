-- Invariants of the walk.
use Rattle.std.proofs.Common.{◌≡◌, ◌≢◌, ℕ, ◌+◌, ◌-◌, ◌<◌, ◌≤◌, true, List, [], ◌∷◌, ◌++◌, length, take, drop, max, Option, Some, None, Result}
use Rattle.std.proofs.Common.{refl, sym, ap, ◌∙◌, subst, arith, append_assoc, append-nil, length-append, length-drop, get_or, drop-cons, suc, add-one}
use Rattle.std.proofs.Math.Path.{fun_ext}
use Rattle.std.proofs.lemmas.List.{same_from_push, drop-drop}
use Rattle.std.proofs.Math.Seq.{take-append_seam, drop-append_seam}
use Rattle.std.specs.Option.{option_map_or}
use Rattle.std.specs.Prelude.{option_and_then, option_map, slice_get}
use Rattle.std.specs.Result.{IsErrAnd}
use Rattle.html_render_dom_values.specs.declared.errors.Error.{Error}
use Rattle.html_render_dom_values.specs.Forest.{Forest, none, node}
use Rattle.html_render_dom_values.specs.Outcome.{Refuses}
use Rattle.html_render_dom_values.specs.laws.Outcome.{Refuses-then, Refuses-same, Refuses-memory}
use Rattle.html_render_parts_widths.specs.declared.Meter.{Meter}
use Rattle.html_render_layout_nodes.specs.Counts.{CountsNodes}
use Rattle.html_render_layout_nodes.specs.declared.tree.Entry.{Entry}
use Rattle.html_render_layout_nodes.specs.declared.frames.Frame.{Frame}
use Rattle.html_render_layout_nodes.specs.Visits.{Visit, Leaf, Inner, Visits, Places, placed, through_visit, inside, Way, Into, Past, run, run_at, places_in}
use Rattle.html_render_layout_nodes.specs.Visits.{IsOpened, nodes_at, visited, open_at, most_open, passed_in, pair_at, RefusesPair}
use Rattle.html_render_layout_nodes.specs.Walk.{innermost}
use Rattle.html_render_layout_nodes.specs.Preorder.{flatten}
use Rattle.html_render_layout_nodes.specs.laws.Counts.{failed-counted}
use Rattle.html_render_layout_nodes.specs.laws.Preorder.{IsPreorderOf, IsPreorderOf-flatten}

-- ---- the outcome of a walk

-- the outcome of a walk: the state after it, the number of nodes that it visits, and the greatest number of nodes open at once
pub record Outcome (S : Type 0) : Type 0 where
  pub state : Option S
  pub visited : ℕ
  pub peak : ℕ

module _ {S : Type 0} where
  abbrev pub outcome : Option S → (visited peak : ℕ) → Outcome S
  outcome o n m = record { state = o; visited = n; peak = m }

  same_counts : (o : Option S) (a b c d : ℕ) → a ≡ b → c ≡ d → outcome o a c ≡ outcome o b d
  same_counts o a b c d p q = cc

  -- the outcome of what follows an optional state
  abbrev pub from_step : {A : Type 0} → Option A → (A → Outcome S) → Outcome S
  from_step o next = option_map_or next o (outcome None 0 0)

  -- an outcome with the counts of what precedes it
  abbrev pub behind : (visited peak : ℕ) → Outcome S → Outcome S
  behind n m o = outcome o.state (n + o.visited) (max m o.peak)

  -- the outcome of a visit and of what follows it, where `children` walks over the children
  abbrev pub by_visit : Visit S → (children : Places S → S → (S → Outcome S) → Outcome S) → (S → Outcome S) → Outcome S
  by_visit (Leaf after) children next = from_step after next
  by_visit (Inner before places after) children next = from_step before (λ q. children places q (λ r. from_step (after r) next))

  from_step-then : (o : Option S) (f : S → Option S) (next : S → Outcome S) →
      from_step o (λ r. from_step (f r) next) ≡ from_step (option_and_then f o) next
  from_step-then None f next = refl
  from_step-then (Some r) f next = refl

  -- if a step isn't possible, the walk has no result
  refuses_from : {A : Type 0} {all : Outcome S} (why : Error) (n m : ℕ) (o : Option A) (next : A → Outcome S) → behind n m (from_step o next) ≡ all →
      Refuses why o → Refuses why all.state
  refuses_from {A = A} why n m o next comes h = Refuses-same why _ _ (sym (ap (λ x. x.state) comes)) (by o (Refuses-then why o (λ x. (next x).state) h))
    where
      by : (o : Option A) → Refuses why (option_and_then (λ x. (next x).state) o) → Refuses why (from_step o next).state
      by None h = h
      by (Some x) h = h

-- the actions of a walk at each node
pub record How (K S T : Type 0) : Type 0 where
  pub visits : Visits K S
  pub below : T → Places S
  pub opened : Option T → ℕ → K → Forest K → S → Option (Way S T)
  pub closed : T → S → Option S
  pub told : (parent : Option T) (number : ℕ) (k : K) (trees : Forest K) (s : S) →
      IsOpened below closed (placed (places_in below parent number s) (visits k trees) s) (opened parent number k trees s)

module _ {K S T : Type 0} (d : How K S T) where
  -- the outcome of a run
  abbrev pub whole : Forest K → S → Outcome S
  whole t s = outcome (run d.visits t s) (length (visited d.visits t s)) (most_open d.visits t s)

  -- the outcome of a walk over trees in these places, the first of this number, and of what follows it; `h` nodes are open before it
  abbrev pub walked : (h : ℕ) → Places S → (number : ℕ) → Forest K → S → (S → Outcome S) → Outcome S
  walked h places number none s next = next s
  walked h places number (node k children beside) s next =
      behind 1 0 (by_visit (placed (places number s) (d.visits k children) s)
      (λ below q after. behind 0 (suc h) (walked (suc h) below 0 children q after)) (λ t. walked h places (number + 1) beside t next))

  -- the outcome of a node that is opened in this way, and of what follows it
  abbrev pub by_way : Option (Way S T) → (children : Places S → S → (S → Outcome S) → Outcome S) → (S → Outcome S) → Outcome S
  by_way w children next = from_step w (λ v. by_one v)
    where
      by_one : Way S T → Outcome S
      by_one (Past t) = next t
      by_one (Into q kept) = children (d.below kept) q (λ r. from_step (d.closed kept r) next)

  visit-way : (v : Visit S) (w : Option (Way S T)) → IsOpened d.below d.closed v w → (children : Places S → S → (S → Outcome S) → Outcome S)
      (next : S → Outcome S) → by_visit v children next ≡ by_way w children next
  visit-way (Leaf o) None h children next = let e : o ≡ None = h.told (λ p r. None) in ap (λ x. from_step x next) e
  visit-way (Leaf o) (Some (Past t)) h children next = let e : o ≡ Some t = h.told (λ p r. None) in ap (λ x. from_step x next) e
  visit-way (Leaf o) (Some (Into q kept)) h children next = let e = h.asked in absurd cc
  visit-way (Inner None places after) None h children next = refl
  visit-way (Inner None places after) (Some (Past t)) h children next = let e : None ≡ Some t = h.told (λ p r. None) in absurd cc
  visit-way (Inner None places after) (Some (Into q kept)) h children next = let e = h.asked in absurd cc
  visit-way (Inner (Some q) places after) None h children next = let e = h.asked in absurd cc
  visit-way (Inner (Some q) places after) (Some (Past t)) h children next = let e = h.asked in absurd cc
  visit-way (Inner (Some q) places after) (Some (Into r kept)) h children next =
      let e = h.asked in
      let pair : ◌≡◌ {A = Places S × S} (places, q) (d.below kept, r) = cc in
      ap (λ x. children x.0 x.1 (λ s. from_step (after s) next)) pair
      ∙ ap (λ f. children (d.below kept) r (λ s. from_step (f s) next)) (fun_ext (λ s. h.told (λ p t. Some s)))

  walked-run : (h : ℕ) (places : Places S) (number : ℕ) (trees : Forest K) (s : S) (next : S → Outcome S) →
      behind 0 h (walked h places number trees s next)
      ≡ behind (length (nodes_at true d.visits places number trees s)) (h + open_at d.visits places number trees s)
      (from_step (run_at d.visits places number trees s) next)
  walked-run h places number none s next = same_counts _ _ _ _ _ (omega arith) (omega arith)
  walked-run h places number (node k children beside) s next =
      by (λ t. walked-run h places (number + 1) beside t next) (λ below q after. walked-run (suc h) below 0 children q after)
      (placed (places number s) (d.visits k children) s)
    where
      later : S → Outcome S
      later t = walked h places (number + 1) beside t next

      nodes_beside : S → List K
      nodes_beside t = nodes_at true d.visits places (number + 1) beside t

      open_beside : S → ℕ
      open_beside t = open_at d.visits places (number + 1) beside t

      run_beside : S → Option S
      run_beside t = run_at d.visits places (number + 1) beside t

      -- the siblings, after `n` visited nodes of which `m` were open at once
      along : ((t : S) → behind 0 h (later t) ≡ behind (length (nodes_beside t)) (h + open_beside t) (from_step (run_beside t) next)) →
          (n m : ℕ) (o : Option S) → behind (1 + n) (max h m) (from_step o later)
          ≡ behind (1 + (n + length (option_map_or nodes_beside o []))) (max m (h + option_map_or open_beside o 0))
          (from_step (option_and_then run_beside o) next)
      along b n m None = same_counts _ _ _ _ _ (omega arith) (omega arith)
      along b n m (Some t) = same_counts _ _ _ _ _ (omega arith) (omega arith) ∙ ap (behind (1 + n) m) (b t) ∙ same_counts _ _ _ _ _ (omega arith) (omega arith)

      by : ((t : S) → behind 0 h (later t) ≡ behind (length (nodes_beside t)) (h + open_beside t) (from_step (run_beside t) next)) →
          ((below : Places S) (q : S) (after : S → Outcome S) → behind 0 (suc h) (walked (suc h) below 0 children q after)
          ≡ behind (length (nodes_at true d.visits below 0 children q)) (suc h + open_at d.visits below 0 children q)
          (from_step (run_at d.visits below 0 children q) after)) →
          (v : Visit S) → behind 0 h (behind 1 0 (by_visit v (λ below q after. behind 0 (suc h) (walked (suc h) below 0 children q after)) later))
          ≡ behind (suc (length (option_map_or (λ x. nodes_at true d.visits x.0 0 children x.1) (inside v) []
          ++ option_map_or nodes_beside (through_visit v (λ below q. run_at d.visits below 0 children q)) [])))
          (h + max (option_map_or (λ x. 1 + open_at d.visits x.0 0 children x.1) (inside v) 0)
          (option_map_or open_beside (through_visit v (λ below q. run_at d.visits below 0 children q)) 0))
          (from_step (option_and_then run_beside (through_visit v (λ below q. run_at d.visits below 0 children q))) next)
      by b c (Leaf o) = same_counts _ _ _ _ _ (omega arith) (omega arith) ∙ along b 0 0 o ∙ same_counts _ _ _ _ _ (omega arith) (omega arith)
      by b c (Inner None below after) = same_counts _ _ _ _ _ (omega arith) (omega arith)
      by b c (Inner (Some q) below after) =
          let n = length (nodes_at true d.visits below 0 children q) in
          let m = suc h + open_at d.visits below 0 children q in
          let o = run_at d.visits below 0 children q in
          let then_beside = option_map_or nodes_beside (option_and_then after o) [] in
          ap (λ x. behind 0 h (behind 1 0 x)) (c below q (λ r. from_step (after r) later) ∙ ap (behind n m) (from_step-then o after later))
          ∙ same_counts _ _ _ _ _ (omega arith) (omega arith) ∙ along b n m (option_and_then after o)
          ∙ same_counts _ _ _ _ _ (omega (arith, length-append (nodes_at true d.visits below 0 children q) then_beside)) (omega arith)

  -- the outcome of an only child without children, by its way
  paired : (h : ℕ) (child : K) (l : T) (q : S) (v : Option (Way S T)) → d.opened (Some l) 0 child none q ≡ v → (next : S → Outcome S) →
      behind 0 (suc h) (walked (suc h) (d.below l) 0 (node child none none) q (λ r. from_step (d.closed l r) next))
      ≡ behind 1 (suc h) (by_way v (λ below r after. behind 0 (suc (suc h)) (walked (suc (suc h)) below 0 none r after)) (λ r. from_step (d.closed l r) next))
  paired h child l q v is next =
      ap (λ o. behind 0 (suc h) (behind 1 0 o)) (visit-way _ _ (d.told (Some l) 0 child none q)
      (λ below r after. behind 0 (suc (suc h)) (walked (suc (suc h)) below 0 none r after)) (λ r. from_step (d.closed l r) next)
      ∙ ap (λ w. by_way w (λ below r after. behind 0 (suc (suc h)) (walked (suc (suc h)) below 0 none r after)) (λ r. from_step (d.closed l r) next)) is)
      ∙ same_counts _ _ _ _ _ (omega arith) (omega arith)

-- ---- the open nodes

slice_get-last : {X : Type 0} (xs : List X) (x : X) → slice_get (xs ++ x ∷ []) (length xs) ≡ Some x
slice_get-last [] x = refl
slice_get-last (y ∷ xs) x = slice_get-last xs x

-- the open nodes, the innermost first, each with the siblings after it
abbrev pub Path : Type 0 → Type 0 → Type 0
Path K T = List (Frame T × Forest K)

module _ {K T : Type 0} where
  -- the stack of the open nodes, the innermost last
  abbrev pub frames_of : Path K T → List (Frame T)
  frames_of [] = []
  frames_of (x ∷ path) = frames_of path ++ x.0 ∷ []

  -- the nodes after the innermost open node's subtree
  abbrev pub tails : Path K T → List (Entry K)
  tails [] = []
  tails (x ∷ path) = flatten x.1 ++ tails path

  -- whether each open node ends where its frame says, and the number of its next sibling is at most that index
  abbrev pub Ends : ℕ → ℕ → Path K T → Type 0
  Ends n at [] = at ≡ n
  Ends n at (x ∷ path) = (x.0.end ≡ at) × ((x.0.next ≤ at) × Ends n (x.0.end + length (flatten x.1)) path)

  -- what the innermost open node keeps
  abbrev pub parent : Path K T → Option T
  parent [] = None
  parent (x ∷ path) = Some x.0.kept

  parent-innermost : (path : Path K T) → innermost (frames_of path) ≡ parent path
  parent-innermost [] = refl
  parent-innermost (x ∷ path) =
      let last : length (frames_of path ++ x.0 ∷ []) - 1 ≡ length (frames_of path) = omega (arith, length-append (frames_of path) (x.0 ∷ [])) in
      ap (λ n. option_map (λ (f : Frame T). f.kept) (slice_get (frames_of path ++ x.0 ∷ []) n)) last
      ∙ ap (λ o. option_map (λ (f : Frame T). f.kept) o) (slice_get-last (frames_of path) x.0)

  length-frames_of : (path : Path K T) → length (frames_of path) ≡ length path
  length-frames_of [] = refl
  length-frames_of (x ∷ path) = omega (arith, length-append (frames_of path) (x.0 ∷ []), length-frames_of path)

  Ends-le : (n at : ℕ) (path : Path K T) → Ends n at path → at ≤ n
  Ends-le n at [] h = omega arith
  Ends-le n at (x ∷ path) h = omega (arith, h.0, Ends-le n (x.0.end + length (flatten x.1)) path h.1.1)

module _ {K S T : Type 0} (d : How K S T) where
  -- the outcome of what follows the innermost open node's children
  abbrev pub after : Path K T → S → Outcome S
  after [] s = outcome (Some s) 0 0
  after (x ∷ path) s =
      from_step (d.closed x.0.kept s) (λ t. walked d (length path) (places_in d.below (parent path)) x.0.next x.1 t (after path))

  -- the outcome of these children of the innermost open node, the first of this number, and of what follows them
  abbrev pub onward : Path K T → ℕ → Forest K → S → Outcome S
  onward path number rest s = walked d (length path) (places_in d.below (parent path)) number rest s (after path)

  -- the outcome of a child that is opened in this way, and of what follows it
  abbrev pub beyond : Path K T → (number : ℕ) → (children beside : Forest K) → Option (Way S T) → Outcome S
  beyond path number children beside w =
      by_way d w (λ below q next. behind 0 (suc (length path)) (walked d (suc (length path)) below 0 children q next)) (onward path number beside)

-- The state of a walk at the index `next`. So far `entered` nodes are visited and at most `most` were open at once. The next
-- node has the number `number`, and `s` is the state.
pub record Walking {K S T : Type 0} (d : How K S T) (nodes : List (Entry K)) (all : Outcome S) (frames : List (Frame T))
    (entered most next number : ℕ) (s : S) : Type 0 where
  pub rest : Forest K
  pub path : Path K T
  pub stack : frames ≡ frames_of path
  pub ahead : drop next nodes ≡ flatten rest ++ tails path
  pub ends : Ends (length nodes) (next + length (flatten rest)) path
  pub comes : behind entered most (onward d path number rest s) ≡ all

-- whether no open node ends at this index
abbrev pub NotOver : {T : Type 0} → List (Frame T) → ℕ → Type 0
NotOver {T} frames next = (below : List (Frame T)) (f : Frame T) → frames ≡ below ++ f ∷ [] → f.end ≢ next

-- the state of a walk before it opens a node
pub record Opening {K S T : Type 0} (d : How K S T) (nodes : List (Entry K)) (all : Outcome S) (frames : List (Frame T))
    (entered most next number : ℕ) (s : S) (e : Entry K) : Type 0 where
  pub children : Forest K
  pub beside : Forest K
  pub path : Path K T
  pub stack : frames ≡ frames_of path
  pub ahead : drop (next + 1) nodes ≡ flatten children ++ (flatten beside ++ tails path)
  pub subtree_len : e.subtree_len ≡ length (flatten children) + 1
  pub ends : Ends (length nodes) (next + e.subtree_len + length (flatten beside)) path
  pub comes : behind (entered + 1) most (beyond d path (number + 1) children beside (d.opened (parent path) number e.node children s)) ≡ all

-- the state of a walk before it closes a node
pub record Closing {K S T : Type 0} (d : How K S T) (nodes : List (Entry K)) (all : Outcome S) (frames : List (Frame T))
    (entered most next number : ℕ) (s : S) (l : T) : Type 0 where
  pub rest : Forest K
  pub path : Path K T
  pub stack : frames ≡ frames_of path
  pub ahead : drop next nodes ≡ flatten rest ++ tails path
  pub ends : Ends (length nodes) (next + length (flatten rest)) path
  pub comes : behind entered most (from_step (d.closed l s) (onward d path number rest)) ≡ all
  pub numbered : number ≤ next

module _ {K S T : Type 0} (d : How K S T) (nodes : List (Entry K)) {all : Outcome S} (frames : List (Frame T)) (entered most next number : ℕ) (s : S) where
  close_at : (fs : List (Frame T)) (f : Frame T) (rest : Forest K) (path : Path K T) → frames_of path ≡ fs ++ f ∷ [] → f.end ≡ next →
      drop next nodes ≡ flatten rest ++ tails path → Ends (length nodes) (next + length (flatten rest)) path →
      behind entered most (onward d path number rest s) ≡ all → Closing d nodes all fs entered most next f.next s f.kept
  close_at fs f rest [] e over ahead ends comes = absurd (omega (arith, ap length e, length-append fs (f ∷ [])))
  close_at fs f (node k children beside) (x ∷ path) e over ahead ends comes =
      absurd (omega (arith, ends.0, over, ap (λ g. g.end) (same_from_push (frames_of path) fs x.0 f e).1))
  close_at fs f none (x ∷ path) e over ahead ends comes =
      let same = same_from_push (frames_of path) fs x.0 f e in
      let here : x.0.end ≡ next = ap (λ (g : Frame T). g.end) same.1 ∙ over in
      record {
        rest = x.1;
        path = path;
        stack = sym same.0;
        ahead = ahead;
        ends = subst (λ m. Ends (length nodes) (m + length (flatten x.1)) path) here ends.1.1;
        comes = ap (λ (g : Frame T). behind entered most (from_step (d.closed g.kept s) (onward d path g.next x.1))) (sym same.1) ∙ comes;
        numbered = omega (arith, over, ends.0, ends.1.0, ap (λ (g : Frame T). g.next) same.1, ap (λ (g : Frame T). g.end) same.1);
      }

  done_at : (rest : Forest K) (path : Path K T) → frames ≡ frames_of path → NotOver frames next → next ≡ length nodes →
      drop next nodes ≡ flatten rest ++ tails path → Ends (length nodes) (next + length (flatten rest)) path →
      behind entered most (onward d path number rest s) ≡ all → (frames ≡ []) × (outcome (Some s) entered most ≡ all)
  done_at none [] stack not_over over ahead ends comes = (stack, same_counts _ _ _ _ _ (omega arith) (omega arith) ∙ comes)
  done_at none (x ∷ path) stack not_over over ahead ends comes = absurd (not_over (frames_of path) x.0 stack (omega (arith, ends.0)))
  done_at (node k children beside) path stack not_over over ahead ends comes =
      absurd (omega (arith, ap length ahead, length-drop next nodes, length-append (flatten children ++ flatten beside) (tails path)))

  opening_at : (e : Entry K) (rest : Forest K) (path : Path K T) → frames ≡ frames_of path → NotOver frames next → next < length nodes →
      e ≡ get_or nodes next e → drop next nodes ≡ flatten rest ++ tails path → Ends (length nodes) (next + length (flatten rest)) path →
      behind entered most (onward d path number rest s) ≡ all → Opening d nodes all frames entered most next number s e
  opening_at e none [] stack not_over in_nodes is ahead ends comes = absurd (omega arith)
  opening_at e none (x ∷ path) stack not_over in_nodes is ahead ends comes = absurd (not_over (frames_of path) x.0 stack (omega (arith, ends.0)))
  opening_at e (node k children beside) path stack not_over in_nodes is ahead ends comes =
      let first : Entry K = record { node = k; subtree_len = length (flatten children) + 1 } in
      let heads : get_or nodes next e ∷ drop (suc next) nodes ≡ first ∷ ((flatten children ++ flatten beside) ++ tails path) =
      sym (drop-cons nodes next e in_nodes) ∙ ahead in
      let same : e ≡ first = is ∙ cc heads in
      subst (λ (x : Entry K). Opening d nodes all frames entered most next number s x) (sym same) record {
        children = children;
        beside = beside;
        path = path;
        stack = stack;
        ahead = rw (add-one, ← append_assoc) (cc heads);
        subtree_len = refl;
        ends = subst (λ m. Ends (length nodes) m path) (omega (arith, length-append (flatten children) (flatten beside))) ends;
        comes = same_counts _ _ _ _ _ (omega arith) (omega arith)
            ∙ ap (λ o. behind entered most (behind 1 0 o)) (sym (visit-way d _ _ (d.told (parent path) number k children s) _ _)) ∙ comes;
      }

module _ {K S T : Type 0} {d : How K S T} where
  pub Walking-start : (t : Forest K) (s : S) → Walking d (flatten t) (whole d t s) [] 0 0 0 0 s
  Walking-start t s = record {
    rest = t;
    path = [];
    stack = refl;
    ahead = sym (append-nil (flatten t));
    ends = omega arith;
    comes = walked-run d 0 _ 0 t s (after d []) ∙ ended (run d.visits t s);
  }
    where
      ended : (o : Option S) → behind (length (visited d.visits t s)) (0 + most_open d.visits t s) (from_step o (after d []))
          ≡ outcome o (length (visited d.visits t s)) (most_open d.visits t s)
      ended None = same_counts _ _ _ _ _ (omega arith) (omega arith)
      ended (Some r) = same_counts _ _ _ _ _ (omega arith) (omega arith)

  module _ {nodes : List (Entry K)} {all : Outcome S} {frames : List (Frame T)} {entered most next number : ℕ} {s : S} where
    -- closing a node continues the walk after it
    pub Closing-done : {l : T} (r : S) → Closing d nodes all frames entered most next number s l → d.closed l s ≡ Some r →
        Walking d nodes all frames entered most next number r
    Closing-done r w step =
        record {
          rest = w.rest;
          path = w.path;
          stack = w.stack;
          ahead = w.ahead;
          ends = w.ends;
          comes = ap (λ o. behind entered most (from_step o (onward d w.path number w.rest))) (sym step) ∙ w.comes;
        }

    pub Closing-refuses : {l : T} (why : Error) → Closing d nodes all frames entered most next number s l → Refuses why (d.closed l s) → Refuses why all.state
    Closing-refuses why w h = refuses_from why entered most _ (onward d w.path number w.rest) w.comes h

    module _ (w : Walking d nodes all frames entered most next number s) where
      pub Walking-close : {fs : List (Frame T)} {f : Frame T} → frames ≡ fs ++ f ∷ [] → f.end ≡ next →
          Closing d nodes all fs entered most next f.next s f.kept
      Walking-close e over = close_at d nodes frames entered most next number s _ _ w.rest w.path (sym w.stack ∙ e) over w.ahead w.ends w.comes

      -- at the end of the walk all nodes are closed
      pub Walking-done : NotOver frames next → next ≡ length nodes → (frames ≡ []) × (outcome (Some s) entered most ≡ all)
      Walking-done not_over over = done_at d nodes frames entered most next number s w.rest w.path w.stack not_over over w.ahead w.ends w.comes

      pub Walking-open : {e : Entry K} {here : List (Entry K)} → here ≡ nodes → NotOver frames next → next < length here →
          e ≡ get_or here next e → Opening d nodes all frames entered most next number s e
      Walking-open {e = e} same not_over in_nodes is =
          opening_at d nodes frames entered most next number s e w.rest w.path w.stack not_over (omega (arith, in_nodes, ap length same)) (is ∙ ap (λ l. get_or l next e) same) w.ahead w.ends w.comes

      -- the counts so far are at most those of the whole walk
      pub Walking-within : (most ≤ all.peak) × (entered ≤ all.visited)
      Walking-within = (omega (arith, ap (λ o. o.peak) w.comes), omega (arith, ap (λ o. o.visited) w.comes))

    module _ {e : Entry K} (w : Opening d nodes all frames entered most next number s e) where
      module _ {trees : Forest K} (same : trees ≡ w.children) {p : Option T} (kept : p ≡ innermost frames) where
        -- the opening of a node by the code's arguments is that by the path
        comes_by : (v : Option (Way S T)) → d.opened p number e.node trees s ≡ v →
            behind (entered + 1) most (beyond d w.path (number + 1) w.children w.beside v) ≡ all
        comes_by v step =
            ap (λ v. behind (entered + 1) most (beyond d w.path (number + 1) w.children w.beside v))
            (sym step ∙ ap (λ f. d.opened p number e.node f s) same
            ∙ ap (λ x. d.opened x number e.node w.children s) (kept ∙ ap (λ fs. innermost fs) w.stack ∙ parent-innermost w.path)) ∙ w.comes

        -- opening a node continues the walk with its children
        pub Opening-into : {q : S} {l : T} → number ≤ next → d.opened p number e.node trees s ≡ Some (Into q l) →
            Walking d nodes all (frames ++ record { end = next + e.subtree_len; next = number + 1; kept = l } ∷ []) (entered + 1)
            (max most (length frames + 1)) (next + 1) 0 q
        Opening-into {l = l} low step =
            let f : Frame T = record { end = next + e.subtree_len; next = number + 1; kept = l } in
            record {
              rest = w.children;
              path = (f, w.beside) ∷ w.path;
              stack = ap (λ fs. fs ++ f ∷ []) w.stack;
              ahead = w.ahead;
              ends = (omega (arith, w.subtree_len), (omega (arith, w.subtree_len, low), w.ends));
              comes = same_counts _ _ _ _ _ (omega arith) (omega (arith, ap length w.stack, length-frames_of w.path)) ∙ comes_by _ step;
            }

        -- going past a node continues the walk with its next sibling
        pub Opening-past : {t : S} → d.opened p number e.node trees s ≡ Some (Past t) →
            Walking d nodes all frames (entered + 1) most (next + e.subtree_len) (number + 1) t
        Opening-past step =
            let at : next + 1 + length (flatten w.children) ≡ next + e.subtree_len = omega (arith, w.subtree_len) in
            record {
              rest = w.beside;
              path = w.path;
              stack = w.stack;
              ahead = sym (ap (λ n. drop n nodes) at) ∙ sym (drop-drop (length (flatten w.children)) (next + 1) nodes)
                  ∙ ap (drop (length (flatten w.children))) w.ahead
                  ∙ drop-append_seam (flatten w.children) (flatten w.beside ++ tails w.path);
              ends = w.ends;
              comes = comes_by _ step;
            }

        pub Opening-refuses : (why : Error) → Refuses why (d.opened p number e.node trees s) → Refuses why all.state
        Opening-refuses why h = refuses_from why (entered + 1) most (d.opened p number e.node trees s) _ (comes_by _ refl) h

        -- a pair is followed by the next sibling
        pair-comes : (below : Forest K) → below ≡ w.children → (v : Option (Way S T)) → d.opened p number e.node below s ≡ v → (o : Option S) →
            pair_at d.opened d.closed p number e.node below s ≡ Some o →
            (behind (entered + 2) (max most (length frames + 1)) (from_step o (onward d w.path (number + 1) w.beside)) ≡ all) × (e.subtree_len ≡ 2)
        pair-comes none is v step o pair = absurd cc
        pair-comes (node child (node a b c) beside) is v step o pair = absurd cc
        pair-comes (node child none (node a b c)) is v step o pair = absurd cc
        pair-comes (node child none none) is None step o pair = let none_in : None ≡ Some o = rw step at pair in absurd cc
        pair-comes (node child none none) is (Some (Past t)) step o pair = let none_in : None ≡ Some o = rw step at pair in absurd cc
        pair-comes (node child none none) is (Some (Into q l)) step o pair =
            (by (d.opened (Some l) 0 child none q) refl (rw step at pair), omega (arith, w.subtree_len, ap (λ f. length (flatten f)) is))
          where
            next_sibling : S → Outcome S
            next_sibling = onward d w.path (number + 1) w.beside

            start : behind (entered + 1) most (behind 0 (suc (length w.path))
                (walked d (suc (length w.path)) (d.below l) 0 (node child none none) q (λ r. from_step (d.closed l r) next_sibling))) ≡ all
            start = ap (λ f. behind (entered + 1) most (beyond d w.path (number + 1) f w.beside (Some (Into q l)))) is
                ∙ comes_by _ (ap (λ f. d.opened p number e.node f s) (same ∙ sym is) ∙ step)

            by : (x : Option (Way S T)) → d.opened (Some l) 0 child none q ≡ x → passed_in d.closed l x ≡ Some o →
                behind (entered + 2) (max most (length frames + 1)) (from_step o next_sibling) ≡ all
            by None opens passed =
                let same_state : None ≡ o = cc in
                subst (λ x. behind (entered + 2) (max most (length frames + 1)) (from_step x next_sibling) ≡ all) same_state
                (same_counts _ _ _ _ _ (omega arith) (omega (arith, ap length w.stack, length-frames_of w.path))
                ∙ ap (behind (entered + 1) most) (sym (paired d (length w.path) child l q None opens next_sibling)) ∙ start)
            by (Some (Past r)) opens passed =
                let same_state : d.closed l r ≡ o = cc in
                subst (λ x. behind (entered + 2) (max most (length frames + 1)) (from_step x next_sibling) ≡ all) same_state
                (same_counts _ _ _ _ _ (omega arith) (omega (arith, ap length w.stack, length-frames_of w.path))
                ∙ ap (behind (entered + 1) most) (sym (paired d (length w.path) child l q (Some (Past r)) opens next_sibling)) ∙ start)
            by (Some (Into r inner)) opens passed = absurd cc

        -- after a pair the walk continues with the next sibling
        pub Opening-pair : {t : S} → pair_at d.opened d.closed p number e.node trees s ≡ Some (Some t) →
            Walking d nodes all frames (entered + e.subtree_len) (max most (length frames + 1)) (next + e.subtree_len) (number + 1) t
        Opening-pair {t = t} pair =
            let comes = pair-comes trees same _ refl (Some t) pair in
            let at : next + 1 + length (flatten w.children) ≡ next + e.subtree_len = omega (arith, w.subtree_len) in
            record {
              rest = w.beside;
              path = w.path;
              stack = w.stack;
              ahead = sym (ap (λ n. drop n nodes) at) ∙ sym (drop-drop (length (flatten w.children)) (next + 1) nodes)
                  ∙ ap (drop (length (flatten w.children))) w.ahead
                  ∙ drop-append_seam (flatten w.children) (flatten w.beside ++ tails w.path);
              ends = w.ends;
              comes = ap (λ n. behind (entered + n) (max most (length frames + 1)) (onward d w.path (number + 1) w.beside t)) comes.1 ∙ comes.0;
            }

        pub Opening-pair-refuses : (why : Error) → RefusesPair why (pair_at d.opened d.closed p number e.node trees s) → Refuses why all.state
        Opening-pair-refuses why h = by (pair_at d.opened d.closed p number e.node trees s) refl h
          where
            by : (o : Option (Option S)) → pair_at d.opened d.closed p number e.node trees s ≡ o → RefusesPair why o → Refuses why all.state
            by None is h = Refuses-memory why all.state h
            by (Some o) is h =
                refuses_from why (entered + 2) (max most (length frames + 1)) o _ (pair-comes trees same _ refl o is).0 h

      -- the end of the node's subtree is within the nodes
      pub Opening-end : next + e.subtree_len ≤ length nodes
      Opening-end = omega (arith, Ends-le (length nodes) _ w.path w.ends)

      -- the nodes below the node, as a part of all nodes, are its children
      pub Opening-part : {here : List (Entry K)} (n : ℕ) → here ≡ nodes → n ≡ e.subtree_len - 1 → IsPreorderOf (take n (drop (next + 1) here)) w.children
      Opening-part {here = here} n same less =
          let many : n ≡ length (flatten w.children) = omega (arith, w.subtree_len) in
          IsPreorderOf-flatten _ _ (ap (λ m. take m (drop (next + 1) here)) many
          ∙ ap (λ l. take (length (flatten w.children)) (drop (next + 1) l)) same
          ∙ ap (take (length (flatten w.children))) w.ahead
          ∙ take-append_seam (flatten w.children) (flatten w.beside ++ tails w.path))

-- the counts of a walk that ends with an error
pub counted-refused : {K S T X : Type 0} {d : How K S T} {r : Result X Error} (Q : Error → Type 0) → IsErrAnd r Q → {f : Forest K} {s now : S}
    {nodes : List (Entry K)} {frames : List (Frame T)} {next number : ℕ} (old new : Meter) →
    Walking d nodes (whole d f s) frames new.entered new.frames next number now →
    new.left ≤ new.entered → new.probes ≡ old.probes → CountsNodes r d.visits f s old new
counted-refused {d = d} {r = r} Q h {f = f} {s = s} old new w left probes =
    failed-counted r Q h d.visits f s old new (Walking-within w).1 left (Walking-within w).0 probes
