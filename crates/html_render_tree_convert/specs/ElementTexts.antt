-- Texts that an element inserts.
use Rattle.std.specs.Prelude.{Bool, ◌||◌, None, is_some}
use Rattle.html_render_tree_convert.specs.declared.plans.ElementTexts.{ElementTexts}

abbrev pub no_texts : ElementTexts
no_texts = record { mark = None; before = None; after = None }

-- whether there is a text
abbrev pub has_any : ElementTexts → Bool
has_any t = is_some t.mark || (is_some t.before || is_some t.after)
