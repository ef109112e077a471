use Rattle.std.proofs.Common.{append_assoc}
use Rattle.html_render_tree.proofs.config.decorations.add_all.Goals as goal

pub returns : goal.returns
returns c =
    rw (
      c.in_ok-add_before_and_after-5.ensures,
      c.in_ok-add_before_and_after-4.ensures,
      c.in_ok-add_before_and_after-3.ensures,
      c.in_ok-add_before_and_after-2.ensures,
      c.in_ok-add_before_and_after.ensures,
    ) (simp append_assoc)
