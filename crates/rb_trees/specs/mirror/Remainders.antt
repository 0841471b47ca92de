-- The mirror of the remainder of a batch.
use Rattle.std.specs.Prelude.{ℕ, List, [], ◌∷◌}
use Rattle.rb_trees.specs.declared.remainders.Part as part
use Rattle.rb_trees.specs.declared.remainders.Part.TheOpen.{Part-F}
use Rattle.rb_trees.specs.declared.remainders.Part.TheFolds.{fold-Part}
use Rattle.rb_trees.specs.mirror.Code.{Expr, Stmt, mirror_expr, mirror_stmt}

mutual
  pub data Part : Type 0 where
    Plain : (stmt : Stmt) (takes : List (ℕ × ℕ)) → Part
    Pass : (step : ℕ) → Part
    Bind : (step : ℕ) (name : List ℕ) (kind : ℕ) → Part
    Both : (step at : ℕ) (name : List ℕ) (value : Expr) → Part
    Branch : (step : ℕ) (then_parts else_parts : Parts) → Part
    Turns : (step : ℕ) (name : List ℕ) (kind : ℕ) (body : Parts) → Part
    Over : (step at : ℕ) (name list : List ℕ) (input : ℕ) (body : Parts) → Part

  pub data Parts : Type 0 where
    NoParts : Parts
    MoreParts : (first : Part) (rest : Parts) → Parts

abbrev pub parts_from : List Part → Parts
parts_from [] = NoParts
parts_from (p ∷ ps) = MoreParts p (parts_from ps)

abbrev pub part_step : Part-F Part → Part
part_step (Part-F.Plain stmt takes) = Plain (mirror_stmt stmt) takes
part_step (Part-F.Pass step) = Pass step
part_step (Part-F.Bind step name kind) = Bind step name kind
part_step (Part-F.Both step at name value) = Both step at name (mirror_expr value)
part_step (Part-F.Branch step a b) = Branch step (parts_from a) (parts_from b)
part_step (Part-F.Turns step name kind a) = Turns step name kind (parts_from a)
part_step (Part-F.Over step at name list input a) = Over step at name list input (parts_from a)

-- a part in the mirror
unfoldable pub mirror_part : part.Part → Part
mirror_part p = fold-Part Part part_step p

abbrev pub mirror_parts : List part.Part → Parts
mirror_parts [] = NoParts
mirror_parts (p ∷ ps) = MoreParts (mirror_part p) (mirror_parts ps)
