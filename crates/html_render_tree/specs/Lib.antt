-- the settings of a configuration, and the text of a render tree
pub mod Texts
pub mod Decorations
pub mod Rendering
-- the program: its words, its faults, its streams, and its outcome
pub mod Words
pub mod Faults
pub mod Streams
pub mod Sequence
pub mod Program
-- finished render trees, with parts of tables in tables alone
pub mod GoodTrees
-- the nodes of a render tree that a layout visits
pub mod Visited
-- laws of the definitions
pub mod laws
-- documents, for callers that keep handles
pub use Rattle.html_render_dom.specs.Dom
-- documents that the calls of a script build
pub use Rattle.html_render_dom.specs.script.Scripts
-- the render tree that a document becomes
pub use Rattle.html_render_tree_convert.specs.Tables
pub use Rattle.html_render_tree_convert.specs.Conversion
pub use Rattle.html_render_tree_convert.specs.Results
-- the relation of an error to a definition
pub use Rattle.html_render_parts.specs.Refusal
-- tagged lines, their strings, and their text under a colour map
pub use Rattle.html_render_layout_tagged.specs.TaggedLine
pub use Rattle.html_render_layout_tagged.specs.Grouping
pub use Rattle.html_render_layout_tagged.specs.Colouring
-- properties of each kind of node, and the display of a render tree
pub use Rattle.html_render_layout_nodes.specs.Kinds
pub use Rattle.html_render_layout_nodes.specs.Dump
-- results of a decorator, and those of plain and of rich text, for callers that implement one
pub use Rattle.html_render_parts.specs.Decoration
pub use Rattle.html_render_parts.specs.Decorators
-- results of a decorator that changes some results of another one
pub use Rattle.html_render_parts.specs.Alteration
pub use Rattle.html_render_parts.specs.declared.decorate.place.Place
