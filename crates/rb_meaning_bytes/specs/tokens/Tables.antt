-- The keywords and the signs, each numbered by its place in its table, from 0.
unfoldable pub use Rattle.rb_trees.specs.Spelling.{keywords, signs, number_in}
