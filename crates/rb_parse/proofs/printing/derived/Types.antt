-- The types that are printed, and their derivations.
use Rattle.std.proofs.Common.{◌≡◌, ℕ, List, refl, ap}
use Rattle.rb_trees.specs.mirror.Types as type
use Rattle.rb_trees.specs.mirror.Types.{TypeTree}
use Rattle.rb_trees.specs.printing.Types.{type_pieces, result_pieces}
use Rattle.rb_trees.specs.printing.Unplaced.{unplaced_type}
use Rattle.rb_meaning_bytes.specs.grammar.Symbols as s
use Rattle.rb_meaning_bytes.specs.grammar.Productions as r
use Rattle.rb_parse.proofs.printing.derived.Made.{MadePart, end, skip, token, the, last, by}

module _ (source : List ℕ) where
  pub type_made : (t : TypeTree) → MadePart source s.AType (type_pieces t) (λ x. unplaced_type x ≡ unplaced_type t)
  type_made (type.Int at) = by r.int_type (token λ t e. end refl)
  type_made (type.Bool at) = by r.bool_type (token λ t e. end refl)
  type_made (type.Text at) = by r.text_type (token λ t e. end refl)
  type_made (type.Unit at) = by r.unit_type (token λ t e. end refl)
  type_made (type.Named at name) = by r.named_type (token λ t e. end (ap (type.Named 0) e))
  type_made (type.ListOf at item) = by r.list_type (token λ t e. token λ u f. the (type_made item) λ x h. token λ v g. end (ap (type.ListOf 0) h))
  type_made (type.RowsOf at row) = by r.rows_type (token λ t e. token λ u f. the (type_made row) λ x h. token λ v g. end (ap (type.RowsOf 0) h))

  pub result_made : (t : TypeTree) → MadePart source s.ResultType (result_pieces t) (λ x. (at : ℕ) → unplaced_type (x at) ≡ unplaced_type t)
  result_made (type.Unit at) = by r.no_result_type (end λ n. refl)
  result_made (type.Int at) = by r.result_type (token λ t e. skip (last (type_made (type.Int at)) λ x h n. h))
  result_made (type.Bool at) = by r.result_type (token λ t e. skip (last (type_made (type.Bool at)) λ x h n. h))
  result_made (type.Text at) = by r.result_type (token λ t e. skip (last (type_made (type.Text at)) λ x h n. h))
  result_made (type.Named at name) = by r.result_type (token λ t e. skip (last (type_made (type.Named at name)) λ x h n. h))
  result_made (type.ListOf at item) = by r.result_type (token λ t e. skip (last (type_made (type.ListOf at item)) λ x h n. h))
  result_made (type.RowsOf at row) = by r.result_type (token λ t e. skip (last (type_made (type.RowsOf at row)) λ x h n. h))
