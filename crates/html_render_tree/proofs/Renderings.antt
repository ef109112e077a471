-- The text of a document, by its render tree and by the lines of that.
use Rattle.std.proofs.Common.{◌≡◌, ap, subst, sym}
use Rattle.html_render_dom.specs.Dom.{Dom}
use Rattle.html_render_parts.specs.Decorators as decorator
use Rattle.html_render_parts.specs.declared.decorate.plain.PlainDecorator.{PlainDecorator}
use Rattle.html_render_parts.specs.declared.decorate.rich.RichDecorator.{RichDecorator}
use Rattle.html_render_tree.specs.declared.htree.words.Preset.{Preset}
use Rattle.html_render_tree.specs.declared.htree.words.Preset.TheVariants.{Plain, Rich, Bare}
use Rattle.html_render_tree.specs.declared.htree.words.Settings.{Settings}
use Rattle.html_render_tree.specs.Program.{bare_options, options_with_overflow, plain_options, preset_text, rendered_text, rich_options, text_by}
use Rattle.html_render_tree.specs.Rendering.{Options}

-- ---- the text with each preset

module _ (settings : Settings) (dom : Dom) where
  pub text-plain : (options : Options PlainDecorator) → settings.preset ≡ Plain → options ≡ plain_options
      → text_by (decorator.plain {A = Unit {0}} tt) (options_with_overflow settings.overflow options) dom settings.width ≡ rendered_text settings dom
  text-plain options preset same =
      let with_options = text_by (decorator.plain {A = Unit {0}} tt) (options_with_overflow settings.overflow options) dom settings.width in
      let Same : Preset → Type 0 = λ p. with_options ≡ preset_text p settings.overflow dom settings.width in
      subst Same (sym preset) (ap (λ o. text_by (decorator.plain {A = Unit {0}} tt) (options_with_overflow settings.overflow o) dom settings.width) same)

  pub text-rich : (options : Options RichDecorator) → settings.preset ≡ Rich → options ≡ rich_options
      → text_by decorator.rich (options_with_overflow settings.overflow options) dom settings.width ≡ rendered_text settings dom
  text-rich options preset same =
      let with_options = text_by decorator.rich (options_with_overflow settings.overflow options) dom settings.width in
      let Same : Preset → Type 0 = λ p. with_options ≡ preset_text p settings.overflow dom settings.width in
      subst Same (sym preset) (ap (λ o. text_by decorator.rich (options_with_overflow settings.overflow o) dom settings.width) same)

  pub text-bare : (options : Options PlainDecorator) → settings.preset ≡ Bare → options ≡ bare_options
      → text_by (decorator.plain {A = Unit {0}} tt) (options_with_overflow settings.overflow options) dom settings.width ≡ rendered_text settings dom
  text-bare options preset same =
      let with_options = text_by (decorator.plain {A = Unit {0}} tt) (options_with_overflow settings.overflow options) dom settings.width in
      let Same : Preset → Type 0 = λ p. with_options ≡ preset_text p settings.overflow dom settings.width in
      subst Same (sym preset) (ap (λ o. text_by (decorator.plain {A = Unit {0}} tt) (options_with_overflow settings.overflow o) dom settings.width) same)
