use Rattle.html_render_parts_widths.specs.laws.GivingOrder.{gives-never_itself, gives-one_way, gives-some_way, gives-transitive}
use Rattle.html_render_parts_widths.proofs.laws.columns_give_in_order.Goals as goal

pub returns-clause-never_itself : goal.returns-clause-never_itself
returns-clause-never_itself c = gives-never_itself

pub returns-clause-one_way : goal.returns-clause-one_way
returns-clause-one_way c = gives-one_way

pub returns-clause-some_way : goal.returns-clause-some_way
returns-clause-some_way c = gives-some_way

pub returns-clause-transitive : goal.returns-clause-transitive
returns-clause-transitive c = gives-transitive
