-- The code's layout, on blocks that are fed character by character: with tags that are indices of stacks, and without tags.
use Rattle.std.specs.Prelude.{ℕ, false, List, [], ◌∷◌, ◌++◌, length, Option, Some, None, if◌then◌else◌}
use Rattle.html_render_dom_values.specs.Forest.{Forest}
use Rattle.html_render_dom_values.specs.declared.white_space.WhiteSpace.TheVariants.{Normal}
use Rattle.html_render_parts.specs.Decoration.{Decoration}
use Rattle.html_render_layout_lines.specs.Line.{Line}
use Rattle.html_render_layout_nodes.specs.declared.tree.RenderNode.{RenderNode}
use Rattle.html_render_layout.specs.declared.state.LayoutState.{LayoutState}
use Rattle.html_render_layout_estimates.specs.declared.settings.LayoutSettings.{LayoutSettings}
use Rattle.html_render_layout_blocks.specs.Ends.{ended_by}
use Rattle.html_render_layout_blocks.specs.Machine as machine
use Rattle.html_render_layout_blocks.specs.Machine.{MachineBlock}
use Rattle.html_render_layout_tagged.specs.Stacks.{stack_at}
use Rattle.html_render_layout_tagged.specs.LaidOut.{tagged}
use Rattle.html_render_layout.specs.Layout.{Algebra, shown_after}

-- state in which a layout begins, with white space `Normal`
abbrev pub begin_with : {S K T B : Type 0} → LayoutSettings → S → K → T → B → LayoutState S K T B
begin_with settings decorator stacks tag block =
    record {
      settings = settings;
      decorator = decorator;
      stacks = stacks;
      text = record { tag = tag; mode = Normal; preformatted = false; struck_out = false };
      block = block;
      blank = tag;
      in_table = false;
      targets = [];
      names = [];
    }

-- tag of padding spaces; none without padding
abbrev pub padding : {T : Type 0} → LayoutSettings → T → Option T
padding settings tag = if settings.pad_block_width then Some tag else None

-- table of stacks with one more: that of a tag with an annotation on top; and the new stack's tag, its index
abbrev pub tabled : {A : Type 0} → List (List A) → ℕ → A → List (List A) × ℕ
tabled stacks tag a = (stacks ++ (stack_at stacks tag ++ a ∷ []) ∷ [], length stacks)

-- store and tag without annotations: nothing changes
abbrev pub untagged : {K A : Type 0} → K → Unit {0} → A → K × Unit {0}
untagged k tag a = (k, tag)

-- algebra of the code's layout: push adds an annotation to a tag
abbrev pub by_tags : {S A K T : Type 0} → Decoration S A → (K → T → A → K × T) → Algebra S A K T (MachineBlock T ℕ)
by_tags d push = record { decoration = d; push = push; operations = machine.operations }

-- state of a layout whose tags are indices of stacks
abbrev pub Worked : Type 0 → Type 0 → Type 0
Worked S A = LayoutState S (List (List A)) ℕ (MachineBlock ℕ ℕ)

-- lines of the code's layout of trees from a state, with their stacks; none where it is too narrow
abbrev pub work_lines : {S A : Type 0} → Decoration S A → Forest RenderNode → Worked S A → Option (List (Line (List A) ℕ))
work_lines {S} {A} d t s = shown_after (by_tags d tabled) (ended_by machine.ending) (λ (r : Worked S A). tagged r.stacks r.block.lines) t s

-- names of the marks in these lines, as a mark is an index of them; none where it is too narrow
abbrev pub work_names : {S A : Type 0} → Decoration S A → Forest RenderNode → Worked S A → Option (List (List ℕ))
work_names {S} {A} d t s = shown_after (by_tags d tabled) (ended_by machine.ending) (λ (r : Worked S A). r.names) t s

-- state of a layout without annotations
abbrev pub Untagged : Type 0 → Type 0 → Type 0
Untagged S K = LayoutState S K (Unit {0}) (MachineBlock (Unit {0}) ℕ)

-- lines of the code's layout of trees from a state without annotations; none where it is too narrow
abbrev pub untagged_work : {S A K : Type 0} → Decoration S A → Forest RenderNode → Untagged S K → Option (List (Line (Unit {0}) ℕ))
untagged_work {S} {A} {K} d t s = shown_after (by_tags d untagged) (ended_by machine.ending) (λ (r : Untagged S K). r.block.lines) t s
