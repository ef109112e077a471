use Rattle.html_render_parts_widths.specs.laws.Needs.{cells_have_room}
use Rattle.html_render_parts_widths.specs.laws.WordMinimums.{few_units_across, least_across, whole_across, word_shares_keep}
use Rattle.html_render_parts_widths.proofs.laws.columns_side_by_side.Goals as goal

pub returns-clause-shares : goal.returns-clause-shares
returns-clause-shares c = word_shares_keep

pub returns-clause-taken : goal.returns-clause-taken
returns-clause-taken c = few_units_across

pub returns-clause-least : goal.returns-clause-least
returns-clause-least c = least_across

pub returns-clause-whole : goal.returns-clause-whole
returns-clause-whole c = whole_across

pub returns-clause-room : goal.returns-clause-room
returns-clause-room c = cells_have_room
