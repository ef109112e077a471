-- THE MACHINE: a block whose open paragraph is fed character by character and whose table is drawn row by row, as in
-- the code.
use Rattle.std.specs.Prelude.{List, [], Option, Some, None, option_map, option_and_then}
use Rattle.html_render_layout_paragraphs.specs.Stream.{State, start, after, finished}
use Rattle.html_render_layout_pictures.specs.Drawing as drawing
use Rattle.html_render_layout_pictures.specs.Drawing.{Drawing}
use Rattle.html_render_layout_blocks.specs.Block as block
use Rattle.html_render_layout_blocks.specs.Block.{Block}
use Rattle.html_render_layout_blocks.specs.Ends as ends
use Rattle.html_render_layout_blocks.specs.Ends.{DocumentEnd}
use Rattle.html_render_layout_blocks.specs.Operations.{Operations}
use Rattle.html_render_layout_blocks.specs.Parts.{Parts}

-- Waiting marks of a paragraph, which is None once a character was too wide for it.
abbrev pub waiting : {T M : Type 0} → Option (State T M) → List M
waiting None = []
waiting (Some q) = q.page.waiting

-- Paragraph without its waiting marks.
abbrev pub without_waiting : {T M : Type 0} → Option (State T M) → Option (State T M)
without_waiting {T} {M} o = option_map (λ (q : State T M). record q { page = record q.page { waiting = [] } }) o

-- Paragraphs and pictures of the machine.
abbrev pub machine : {T M : Type 0} → Parts (Option (State T M)) (Drawing T M) T M
machine {T} {M} = record {
  start = λ s ms. Some (start s ms);
  feed = λ o xs. option_and_then (λ (q : State T M). after q xs) o;
  finish = λ o. option_and_then (λ (q : State T M). finished q) o;
  next = λ o ms. option_map (λ (q : State T M). start q.setting ms) o;
  waiting = waiting;
  without_waiting = without_waiting;
  begun = drawing.begun;
  with_row = drawing.with_row;
  drawn = drawing.finished;
}

-- A block of the machine.
abbrev pub MachineBlock : Type 0 → Type 0 → Type 0
MachineBlock T M = Block (Option (State T M)) (Drawing T M) T M

-- Operations of a layout on the machine's blocks. They don't unfold in the crates above, which only call them.
unfoldable pub operations : {T M : Type 0} → Operations (MachineBlock T M) T M
operations = block.operations machine

-- Operations at the end of a document, on the machine's blocks. They don't unfold in the crates above.
unfoldable pub ending : {T M : Type 0} → DocumentEnd (MachineBlock T M) T
ending = ends.ending machine
