-- Which scripts are formed, and how deep they nest. A script that is formed and within the limits has a spelling.
use Rattle.std.specs.Prelude.{◌≡◌, ◌<◌, ◌≤◌, ◌^◌, ℕ, zero, suc, Bool, true, false, List, [], ◌∷◌, length, get_or, Some, slice_get}
use Rattle.rb_trees.specs.ScriptLimits.{most_exprs, most_blocks}
use Rattle.rb_trees.specs.declared.values.Value.{Value, out-Value}
use Rattle.rb_trees.specs.declared.values.Value.TheOpen.{Value-F}
use Rattle.rb_trees.specs.Validity.{has}
use Rattle.rb_trees.specs.mirror.Scripts as tree
use Rattle.rb_trees.specs.mirror.Scripts.{SExpr, SExprs, Step, Steps, Script}
use Rattle.rb_meaning_bytes.specs.formats.Fields.{Wide, Text, Name, Fits}
use Rattle.rb_meaning_bytes.specs.formats.Items.{count_items, most_items}
use Rattle.rb_meaning_bytes.specs.formats.ScriptBytes.{count_exprs, count_steps}

-- Int, Bool, or Text of at most 4,096 bytes of UTF-8
abbrev pub primitive_form : Value-F Value → Type 0
primitive_form (Value-F.Int z) = Fits Wide z
primitive_form (Value-F.Bool b) = Unit {0}
primitive_form (Value-F.Text bytes) = Fits Text bytes
primitive_form _ = ⊥

abbrev pub IsPrimitive : Value → Type 0
IsPrimitive v = primitive_form (out-Value v)

abbrev pub ArePrimitive : List Value → Type 0
ArePrimitive [] = Unit {0}
ArePrimitive (v ∷ vs) = IsPrimitive v × ArePrimitive vs

-- Literals are primitive, a method has a name, a kind is at most 8; numbers and counts are within their bits.
abbrev mutual
  pub FormedExpr : SExpr → Type 0
  FormedExpr (tree.Lit v) = IsPrimitive v
  FormedExpr (tree.Input i) = i < 256
  FormedExpr (tree.Var i) = i < 2 ^ 32
  FormedExpr tree.Root = Unit {0}
  FormedExpr (tree.Unary op at a) = (at < 2 ^ 32) × FormedExpr a
  FormedExpr (tree.Binary op at a b) = (at < 2 ^ 32) × FormedExpr a × FormedExpr b
  FormedExpr (tree.Call at kind method target args) =
      (at < 2 ^ 32) × (kind ≤ 8) × Fits Name method × FormedExpr target × (count_exprs args < 2 ^ 32) × FormedExprs args

  pub FormedExprs : SExprs → Type 0
  FormedExprs tree.NoSExprs = Unit {0}
  FormedExprs (tree.MoreSExprs e es) = FormedExpr e × FormedExprs es

abbrev mutual
  pub FormedStep : Step → Type 0
  FormedStep (tree.Do id at e) = (id < 2 ^ 32) × (at < 2 ^ 32) × FormedExpr e
  FormedStep (tree.Keep id at e) = (id < 2 ^ 32) × (at < 2 ^ 32) × FormedExpr e
  FormedStep (tree.Let id at var keep e) = (id < 2 ^ 32) × (at < 2 ^ 32) × (var < 2 ^ 32) × FormedExpr e
  FormedStep (tree.If id at e a b) = (id < 2 ^ 32) × (at < 2 ^ 32) × FormedExpr e
      × (count_steps a < 2 ^ 32) × FormedSteps a × (count_steps b < 2 ^ 32) × FormedSteps b
  FormedStep (tree.Each id at var keep e a) = (id < 2 ^ 32) × (at < 2 ^ 32) × (var < 2 ^ 32) × FormedExpr e
      × (count_steps a < 2 ^ 32) × FormedSteps a
  FormedStep (tree.Over id at var input a) = (id < 2 ^ 32) × (at < 2 ^ 32) × (var < 2 ^ 32) × (input < 256)
      × (count_steps a < 2 ^ 32) × FormedSteps a

  pub FormedSteps : Steps → Type 0
  FormedSteps tree.NoSteps = Unit {0}
  FormedSteps (tree.MoreSteps s ss) = FormedStep s × FormedSteps ss

-- The numbers of the inputs that are lists rise, and each is below the number of inputs.
abbrev pub AreListNumbers : ℕ → List ℕ → Type 0
AreListNumbers inputs lists =
    ((i j : ℕ) → i < j → j < length lists → get_or lists i 0 < get_or lists j 0) × ((i : ℕ) → i < length lists → get_or lists i 0 < inputs)

pub record FormedScript (s : Script) : Type 0 where
  pub inputs : s.inputs < 256
  pub lists : AreListNumbers s.inputs s.lists
  pub count : count_steps s.body < 2 ^ 32
  pub body : FormedSteps s.body

-- Scripts that version 1 can spell: no input is a list, and no step is an Over.
abbrev mutual
  pub HasNoOver : Step → Type 0
  HasNoOver (tree.If id at e a b) = HaveNoOver a × HaveNoOver b
  HasNoOver (tree.Each id at var keep e a) = HaveNoOver a
  HasNoOver (tree.Over id at var input a) = ⊥
  HasNoOver _ = Unit {0}

  pub HaveNoOver : Steps → Type 0
  HaveNoOver tree.NoSteps = Unit {0}
  HaveNoOver (tree.MoreSteps s ss) = HasNoOver s × HaveNoOver ss

pub record IsWithoutLists (s : Script) : Type 0 where
  pub lists : s.lists ≡ []
  pub steps : HaveNoOver s.body

-- a list of primitive values
abbrev pub list_form : Value-F Value → Type 0
list_form (Value-F.List items) = ArePrimitive items
list_form _ = ⊥

-- a value of an input: a list where the input is one, else primitive
abbrev pub input_form : Bool → Value-F Value → Type 0
input_form true v = list_form v
input_form false v = primitive_form v

-- values for the inputs of a script
pub record AreInputs (s : Script) (values : List Value) : Type 0 where
  pub count : length values ≡ s.inputs
  pub each : (number : ℕ) (v : Value) → slice_get values number ≡ Some v → input_form (has number s.lists) (out-Value v)
  pub items : count_items values ≤ most_items

-- ---- how deep they nest

-- at most so many expressions within each other
abbrev mutual
  pub Within : ℕ → SExpr → Type 0
  Within zero e = ⊥
  Within (suc n) (tree.Unary op at a) = Within n a
  Within (suc n) (tree.Binary op at a b) = Within n a × Within n b
  Within (suc n) (tree.Call at kind method target args) = Within n target × AllWithin n args
  Within (suc n) _ = Unit {0}

  pub AllWithin : ℕ → SExprs → Type 0
  AllWithin n tree.NoSExprs = Unit {0}
  AllWithin n (tree.MoreSExprs e es) = Within n e × AllWithin n es

-- an expression of a step
unfoldable pub WholeWithin : SExpr → Type 0
WholeWithin e = Within most_exprs e

-- at most so many blocks within each other in a step
abbrev mutual
  pub StepWithin : ℕ → Step → Type 0
  StepWithin n (tree.Do id at e) = WholeWithin e
  StepWithin n (tree.Keep id at e) = WholeWithin e
  StepWithin n (tree.Let id at var keep e) = WholeWithin e
  StepWithin zero (tree.If id at e a b) = ⊥
  StepWithin (suc n) (tree.If id at e a b) = WholeWithin e × StepsWithin n a × StepsWithin n b
  StepWithin zero (tree.Each id at var keep e a) = ⊥
  StepWithin (suc n) (tree.Each id at var keep e a) = WholeWithin e × StepsWithin n a
  StepWithin zero (tree.Over id at var input a) = ⊥
  StepWithin (suc n) (tree.Over id at var input a) = StepsWithin n a

  pub StepsWithin : ℕ → Steps → Type 0
  StepsWithin n tree.NoSteps = Unit {0}
  StepsWithin n (tree.MoreSteps s ss) = StepWithin n s × StepsWithin n ss

-- a block, with at most so many within each other
abbrev pub BlockWithin : ℕ → Steps → Type 0
BlockWithin zero ss = ⊥
BlockWithin (suc n) ss = StepsWithin n ss

unfoldable pub IsWithinLimits : Script → Type 0
IsWithinLimits s = BlockWithin most_blocks s.body
