use Rattle.html_render_parts_widths.specs.laws.WordMinimums.{minimums_fairest, word_shares_fit}
use Rattle.html_render_parts_widths.specs.laws.FairestAcross.{across_is, is_across, none_is, is_none, room_is, is_room}
use Rattle.html_render_parts_widths.proofs.laws.columns_are_cut_fairly.Goals as goal

pub returns-clause-side_by_side : goal.returns-clause-side_by_side
returns-clause-side_by_side c = λ w needs. (room_is w needs, is_room w needs)

pub returns-clause-fit : goal.returns-clause-fit
returns-clause-fit c = word_shares_fit

pub returns-clause-words : goal.returns-clause-words
returns-clause-words c = minimums_fairest

pub returns-clause-fairest : goal.returns-clause-fairest
returns-clause-fairest c = λ w needs ws. (across_is w needs ws, λ h. is_across w needs ws h.0 h.1)

pub returns-clause-none : goal.returns-clause-none
returns-clause-none c = λ w needs. (none_is w needs, is_none w needs)
