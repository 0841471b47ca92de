-- Remote calls keep the table fitting.
use Rattle.std.proofs.Common.{◌≡◌, refl, sym, ap, ◌∙◌, subst, ℕ, zero, suc, ◌<◌, ◌≤◌, List, [], ◌∷◌, length, arith, inr, Bool as Truth, true, false, cond, All, Option, Some, None, option_and_then, option_map, slice_get, Result, Ok}
use Rattle.std.specs.Str.{bytes_eq}
use Rattle.std.proofs.lemmas.Slice.Eq.{bytes_eq-Decides}
use Rattle.std.proofs.lemmas.List.Elements.{All-nil, All-cons, All-head, All-tail, All-weaker}
use Rattle.rb_trees.specs.Classes.{method_of_class}
use Rattle.rb_trees.specs.Outcome.{◌>>=◌, known}
use Rattle.rb_trees.specs.declared.values.Value.{Value}
use Rattle.rb_trees.specs.declared.values.Value.TheOpen.{Value-F}
use Rattle.rb_trees.specs.declared.values.Value.TheVariants as value
use Rattle.rb_trees.specs.declared.values.Value.TheViews.{out-Value, out-roll-Value}
use Rattle.rb_trees.specs.declared.values.Fault.{Fault}
use Rattle.rb_trees.specs.declared.services.Object.{Object}
use Rattle.rb_trees.specs.mirror.Types as tree
use Rattle.rb_trees.specs.mirror.Types.{TypeTree}
use Rattle.rb_trees.specs.mirror.Declarations.{Param, Class}
use Rattle.rb_meaning_types.specs.Kinds as type
use Rattle.rb_meaning_types.specs.Values.{IsInt, IsText, IsList}
use Rattle.rb_meaning_types.specs.Names.{class_named, method_named}
use Rattle.rb_meaning_types.specs.Declared.{of_service}
use Rattle.rb_meaning_types.specs.Programs.{check_service}
use Rattle.rb_meaning_types.specs.Fits.{classes_of, Fits, IsIntValue, IsBoolValue, IsTextValue, IsUnitValue, IsObjectOf, AreItems, AreRows, HeapFits, TableFits}
use Rattle.rb_meaning_code.specs.Faults as faults
use Rattle.rb_meaning_code.specs.Faults.{no_method, bad_arguments, wrong_kind}
use Rattle.rb_meaning_code.specs.Dialogue.{Outcome, Gave, Faulted}
use Rattle.rb_meaning_code.specs.Calls.{method_of}
use Rattle.rb_meaning_code.specs.Remote.{Server, Reply, and_then, replies, Item, AnInt, ABool, AText, AnObject, Kind, Nothing, One, Rows, kind_of, seen_item, seen_items, seen_rows, seen_nothing, seen, seen_as, taken_object, taken_as, taken_all, remote_object, begun, server_of, served, returned, invoke}
use Rattle.rb_law_types.specs.Formed.{AreFormed}
use Rattle.rb_law_types.specs.Ends.{Grown, Place, context, Ends, OfKind}
use Rattle.rb_law_types.specs.Admitted.{HasMethod}
use Rattle.rb_law_types.specs.Code.{ArgumentsFit, CallFits, Stands}
use Rattle.rb_law_types.specs.Kept.{IsBoundedForm, IsBounded}
use Rattle.rb_law_types.specs.Remote.{IsItemForm, AreRowsForm, IsNothingForm, IsKindForm, IsOfKind, IsCallFault, TableKeeps, ReplyKeeps, CallsKeep}
use Rattle.rb_law_types.proofs.Faults.{empty_text}
use Rattle.rb_law_types.proofs.Values.{unit_out, int_out, bool_out, text_out, grown_same, int_fits, bool_fits, text_fits, object_fits}
use Rattle.rb_law_types.proofs.Services.{services_end}

pub remote_out : (object : ℕ) → out-Value (value.Remote object) ≡ Value-F.Remote object
remote_out object = ap out-Value (sym (value.rolls-Remote object)) ∙ out-roll-Value (Value-F.Remote object)

pub rows_out : (rows : List Value) → out-Value (value.Rows rows) ≡ Value-F.Rows rows
rows_out rows = ap out-Value (sym (value.rolls-Rows rows)) ∙ out-roll-Value (Value-F.Rows rows)

-- tables

pub got_within : {A : Type 0} (xs : List A) (n : ℕ) (a : A) → slice_get xs n ≡ Some a → n < length xs
got_within [] n a e = absurd (cc (e))
got_within (x ∷ xs) zero a e = omega arith
got_within (x ∷ xs) (suc n) a e = omega (arith, got_within xs n a e)

got_there : {A : Type 0} (xs : List A) (n : ℕ) → n < length xs → (a : A) × (slice_get xs n ≡ Some a)
got_there [] n h = absurd (omega (arith, h))
got_there (x ∷ xs) zero h = (x, refl)
got_there (x ∷ xs) (suc n) h = got_there xs n (omega (arith, h))

classes_count : (heap : List Object) → length (classes_of heap) ≡ length heap
classes_count [] = refl
classes_count (o ∷ heap) = ap suc (classes_count heap)

-- an object's number stays one of the table
pub still_within : (before after : List Object) (n : ℕ) → Grown (classes_of before) (classes_of after) → n < length before → n < length after
still_within before after n g h =
    let c = got_there (classes_of before) n (omega (arith, h, classes_count before)) in
    omega (arith, got_within (classes_of after) n c.0 (g n c.0 c.1), classes_count after)

table_after : (classes : List Class) (root : ℕ) (before after : List Object) → TableFits classes root before → HeapFits [] classes after → Grown (classes_of before) (classes_of after) → TableKeeps classes root before after
table_after classes root before after h fits g = record { fits = record { heap_fits = fits; root_is = still_within before after root g h.root_is }; grown = g }

pub table_same : (classes : List Class) (root : ℕ) (table : List Object) → TableFits classes root table → TableKeeps classes root table table
table_same classes root table h = record { fits = h; grown = grown_same (classes_of table) }

-- what the client sees

-- a value of the service, as far as its outermost form goes
abbrev IsHereForm : ℕ → Value-F Value → Type 0
IsHereForm objects (Value-F.Int number) = IsInt number
IsHereForm objects (Value-F.Text text) = IsText text
IsHereForm objects (Value-F.Ref object) = object < objects
IsHereForm objects _ = Unit {0}

-- the same, with the items of a list
abbrev IsWholeForm : ℕ → Value-F Value → Type 0
IsWholeForm objects (Value-F.Int number) = IsInt number
IsWholeForm objects (Value-F.Text text) = IsText text
IsWholeForm objects (Value-F.Ref object) = object < objects
IsWholeForm objects (Value-F.List items) = IsList items × All (λ v. IsHereForm objects (out-Value v)) items
IsWholeForm objects _ = Unit {0}

whole_here : (objects : ℕ) (v : Value-F Value) → IsWholeForm objects v → IsHereForm objects v
whole_here objects (Value-F.Int n) h = h
whole_here objects (Value-F.Text t) h = h
whole_here objects (Value-F.Ref o) h = h
whole_here objects Value-F.Unit h = tt
whole_here objects _ h = tt

module _ (cs : List (List ℕ)) where
  int_whole : (v : Value-F Value) → IsIntValue v → IsWholeForm (length cs) v
  int_whole (Value-F.Int n) h = h
  int_whole Value-F.Unit h = absurd h
  int_whole _ h = absurd h

  bool_whole : (v : Value-F Value) → IsBoolValue v → IsWholeForm (length cs) v
  bool_whole (Value-F.Bool b) h = tt
  bool_whole Value-F.Unit h = absurd h
  bool_whole _ h = absurd h

  text_whole : (v : Value-F Value) → IsTextValue v → IsWholeForm (length cs) v
  text_whole (Value-F.Text t) h = h
  text_whole Value-F.Unit h = absurd h
  text_whole _ h = absurd h

  unit_whole : (v : Value-F Value) → IsUnitValue v → IsWholeForm (length cs) v
  unit_whole Value-F.Unit h = tt
  unit_whole (Value-F.Bool b) h = absurd h
  unit_whole _ h = absurd h

  object_whole : (name : List ℕ) (v : Value-F Value) → IsObjectOf cs name v → IsWholeForm (length cs) v
  object_whole name (Value-F.Ref o) h = got_within cs o name h
  object_whole name Value-F.Unit h = absurd h
  object_whole name _ h = absurd h

  list_whole : (P : Value → Type 0) → ((v : Value) → P v → IsHereForm (length cs) (out-Value v)) → (v : Value-F Value) → AreItems P v → IsWholeForm (length cs) v
  list_whole P f (Value-F.List items) h = (h.0, All-weaker P (λ v. IsHereForm (length cs) (out-Value v)) f items h.1)
  list_whole P f Value-F.Unit h = absurd h
  list_whole P f _ h = absurd h

  rows_whole : (P : Value → Type 0) (v : Value-F Value) → AreRows P v → IsWholeForm (length cs) v
  rows_whole P (Value-F.Rows rows) h = tt
  rows_whole P Value-F.Unit h = absurd h
  rows_whole P _ h = absurd h

  whole : (k : type.Kind) (v : Value) → Fits [] cs k v → IsWholeForm (length cs) (out-Value v)
  whole type.Int v h = int_whole (out-Value v) h
  whole type.Bool v h = bool_whole (out-Value v) h
  whole type.Text v h = text_whole (out-Value v) h
  whole type.Unit v h = unit_whole (out-Value v) h
  whole (type.Named name) v h = object_whole name (out-Value v) h
  whole (type.ListOf item) v h = list_whole (Fits [] cs item) (λ w g. whole_here (length cs) (out-Value w) (whole item w g)) (out-Value v) h
  whole (type.RowsOf row) v h = rows_whole (Fits [] cs row) (out-Value v) h

and_then_some : {A B : Type 0} (f : A → Option B) (o : Option A) (b : B) → option_and_then f o ≡ Some b → (a : A) × (o ≡ Some a) × (f a ≡ Some b)
and_then_some f (Some a) b e = (a, refl, e)
and_then_some f None b e = absurd (cc (e))

map_some : {A B : Type 0} (f : A → B) (o : Option A) (b : B) → option_map f o ≡ Some b → (a : A) × (o ≡ Some a) × (f a ≡ b)
map_some f (Some a) b e = (a, refl, cc (e))
map_some f None b e = absurd (cc (e))

module _ (objects : ℕ) where
  item_seen : (item : Item) (w : Value-F Value) (u : Value) → IsHereForm objects w → seen_item item w ≡ Some u → IsItemForm objects item (out-Value u)
  item_seen AnInt (Value-F.Int n) u h e = let same : value.Int n ≡ u = cc (e) in subst (λ v. IsItemForm objects AnInt (out-Value v)) same (subst (IsItemForm objects AnInt) (sym (int_out n)) h)
  item_seen ABool (Value-F.Bool b) u h e = let same : value.Bool b ≡ u = cc (e) in subst (λ v. IsItemForm objects ABool (out-Value v)) same (subst (IsItemForm objects ABool) (sym (bool_out b)) tt)
  item_seen AText (Value-F.Text t) u h e = let same : value.Text t ≡ u = cc (e) in subst (λ v. IsItemForm objects AText (out-Value v)) same (subst (IsItemForm objects AText) (sym (text_out t)) h)
  item_seen AnObject (Value-F.Ref o) u h e = let same : value.Remote o ≡ u = cc (e) in subst (λ v. IsItemForm objects AnObject (out-Value v)) same (subst (IsItemForm objects AnObject) (sym (remote_out o)) h)
  item_seen AnInt Value-F.Unit u h e = absurd (cc (e))
  item_seen _ _ u h e = absurd (cc (e))

  abbrev IsItem : Item → Value → Type 0
  IsItem item v = IsItemForm objects item (out-Value v)

  abbrev IsHere : Value → Type 0
  IsHere v = IsHereForm objects (out-Value v)

  items_seen : (item : Item) (vs ws : List Value) → All IsHere vs → seen_items item vs ≡ Some ws → All (IsItem item) ws × (length ws ≡ length vs)
  items_seen item [] ws h e = let same : [] ≡ ws = cc (e) in (subst (All (IsItem item)) same (All-nil (IsItem item)), ap length (sym same))
  items_seen item (v ∷ vs) ws h e =
      let a = and_then_some (λ w. option_map (λ us. w ∷ us) (seen_items item vs)) (seen_item item (out-Value v)) ws e in
      let b = map_some (λ us. a.0 ∷ us) (seen_items item vs) ws a.2 in
      let c = items_seen item vs b.0 (All-tail IsHere v vs h) b.1 in
      (subst (All (IsItem item)) b.2 (All-cons (IsItem item) a.0 b.0 (item_seen item (out-Value v) a.0 (All-head IsHere v vs h) a.1) c.0), ap length (sym b.2) ∙ ap suc c.1)

  rows_seen : (item : Item) (w : Value-F Value) (u : Value) → IsWholeForm objects w → seen_rows item w ≡ Some u → AreRowsForm objects item (out-Value u)
  rows_seen item (Value-F.List items) u h e =
      let a = map_some value.Rows (seen_items item items) u e in
      let b = items_seen item items a.0 h.1 a.1 in
      subst (λ v. AreRowsForm objects item (out-Value v)) a.2 (subst (AreRowsForm objects item) (sym (rows_out a.0)) (omega (arith, h.0, b.1), b.0))
  rows_seen item Value-F.Unit u h e = absurd (cc (e))
  rows_seen item _ u h e = absurd (cc (e))

  nothing_seen : (w : Value-F Value) (u : Value) → seen_nothing w ≡ Some u → IsNothingForm (out-Value u)
  nothing_seen Value-F.Unit u e = let same : value.Unit ≡ u = cc (e) in subst (λ v. IsNothingForm (out-Value v)) same (subst IsNothingForm (sym unit_out) tt)
  nothing_seen (Value-F.Bool b) u e = absurd (cc (e))
  nothing_seen _ u e = absurd (cc (e))

  kind_seen : (k : Kind) (w : Value-F Value) (u : Value) → IsWholeForm objects w → seen k w ≡ Some u → IsKindForm objects k (out-Value u)
  kind_seen Nothing w u h e = nothing_seen w u e
  kind_seen (One item) w u h e = item_seen item w u (whole_here objects w h) e
  kind_seen (Rows item) w u h e = rows_seen item w u h e

  seen_fits : (number : ℕ) (w : Value-F Value) (u : Value) → IsWholeForm objects w → seen_as number w ≡ Some u → IsOfKind number objects u
  seen_fits number w u h e =
      let k = and_then_some (λ kind. seen kind w) (kind_of number) u e in
      (k.0, k.1, kind_seen k.0 w u h k.2)

-- what the service takes

class_at : (table : List Object) (n : ℕ) (o : Object) → slice_get table n ≡ Some o → slice_get (classes_of table) n ≡ Some o.class
class_at [] n o e = absurd (cc (e))
class_at (p ∷ table) zero o e = let same : p ≡ o = cc (e) in ap (λ q. Some q.class) same
class_at (p ∷ table) (suc n) o e = class_at table n o e

module _ (table : List Object) where
  int_taken : (w : Value-F Value) (u : Value) → IsBoundedForm w → seen_item AnInt w ≡ Some u → Fits [] (classes_of table) type.Int u
  int_taken (Value-F.Int n) u h e = let same : value.Int n ≡ u = cc (e) in subst (Fits [] (classes_of table) type.Int) same (int_fits [] (classes_of table) n h)
  int_taken Value-F.Unit u h e = absurd (cc (e))
  int_taken _ u h e = absurd (cc (e))

  bool_taken : (w : Value-F Value) (u : Value) → seen_item ABool w ≡ Some u → Fits [] (classes_of table) type.Bool u
  bool_taken (Value-F.Bool b) u e = let same : value.Bool b ≡ u = cc (e) in subst (Fits [] (classes_of table) type.Bool) same (bool_fits [] (classes_of table) b)
  bool_taken Value-F.Unit u e = absurd (cc (e))
  bool_taken _ u e = absurd (cc (e))

  text_taken : (w : Value-F Value) (u : Value) → IsBoundedForm w → seen_item AText w ≡ Some u → Fits [] (classes_of table) type.Text u
  text_taken (Value-F.Text t) u h e = let same : value.Text t ≡ u = cc (e) in subst (Fits [] (classes_of table) type.Text) same (text_fits [] (classes_of table) t h)
  text_taken Value-F.Unit u h e = absurd (cc (e))
  text_taken _ u h e = absurd (cc (e))

  object_taken : (class : List ℕ) (w : Value-F Value) (u : Value) → taken_object table class w ≡ Some u → Fits [] (classes_of table) (type.Named class) u
  object_taken class (Value-F.Remote n) u e =
      let o = and_then_some (λ p. cond (bytes_eq p.class class) (Some (value.Ref n)) None) (slice_get table n) u e in
      by o.0 (class_at table n o.0 o.1) (bytes_eq (o.0).class class) refl o.2
    where
      by : (p : Object) → slice_get (classes_of table) n ≡ Some p.class → (t : Truth) → bytes_eq p.class class ≡ t → cond t (Some (value.Ref n)) None ≡ Some u → Fits [] (classes_of table) (type.Named class) u
      by p there true is e' =
          let same : value.Ref n ≡ u = cc (e') in
          let named : slice_get (classes_of table) n ≡ Some class = there ∙ ap Some ((bytes_eq-Decides p.class class).0 is) in
          subst (Fits [] (classes_of table) (type.Named class)) same (object_fits [] (classes_of table) class n refl named)
      by p there false is e' = absurd (cc (e'))
  object_taken class Value-F.Unit u e = absurd (cc (e))
  object_taken class _ u e = absurd (cc (e))

  value_taken : (t : TypeTree) (w : Value-F Value) (u : Value) → IsBoundedForm w → taken_as table t w ≡ Some u → Fits [] (classes_of table) (type.kind_of t) u
  value_taken (tree.Int at) w u h e = int_taken w u h e
  value_taken (tree.Bool at) w u h e = bool_taken w u e
  value_taken (tree.Text at) w u h e = text_taken w u h e
  value_taken (tree.Named at class) w u h e = object_taken class w u e
  value_taken (tree.Unit at) w u h e = absurd (cc (e))
  value_taken (tree.ListOf at item) w u h e = absurd (cc (e))
  value_taken (tree.RowsOf at row) w u h e = absurd (cc (e))

  values_taken : (ps : List Param) (args ws : List Value) → All IsBounded args → taken_all table ps args ≡ Some ws → ArgumentsFit [] (classes_of table) ps ws
  values_taken [] [] ws h e = let same : [] ≡ ws = cc (e) in subst (ArgumentsFit [] (classes_of table) []) same tt
  values_taken (p ∷ ps) (v ∷ vs) ws h e =
      let a = and_then_some (λ w. option_map (λ us. w ∷ us) (taken_all table ps vs)) (taken_as table p.kind (out-Value v)) ws e in
      let b = map_some (λ us. a.0 ∷ us) (taken_all table ps vs) ws a.2 in
      subst (ArgumentsFit [] (classes_of table) (p ∷ ps)) b.2 (value_taken p.kind (out-Value v) a.0 (All-head IsBounded v vs h) a.1, values_taken ps vs b.0 (All-tail IsBounded v vs h) b.1)
  values_taken [] (v ∷ vs) ws h e = absurd (cc (e))
  values_taken (p ∷ ps) [] ws h e = absurd (cc (e))

-- a call

plain_fallen : (at : ℕ) (target : Value-F Value) (code : ℕ) → 1 ≤ code → code ≤ 11 → IsCallFault at target at (faults.plain_fault code)
plain_fallen at target code least most = record { here = refl; fault = record { least = least; most = omega (arith, most); text = empty_text; plain = inr refl }; kind = λ e. absurd (omega (arith, e, most)) }

known_keeps : {A B : Type 0} {C : Type 0} (classes : List Class) (root : ℕ) (before : List Object) (P : ℕ → C → Type 0) (F : ℕ → Fault → Type 0) (at : ℕ) (f : Fault) (o : Option A) (k : A → Result B Fault) (s : Server) (go : B → Server → Reply C)
    → TableKeeps classes root before s.table → (o ≡ None → F at f) → ((a : A) → o ≡ Some a → ReplyKeeps classes root before P F (and_then (replies at (k a) s) go)) → ReplyKeeps classes root before P F (and_then (replies at (known f o >>= k) s) go)
known_keeps classes root before P F at f (Some a) k s go t none some' = some' a refl
known_keeps classes root before P F at f None k s go t none some' = (none refl, t)

module _ (classes : List Class) (typed : check_service classes ≡ Ok tt) (formed : AreFormed classes) (root at kind : ℕ) (target : Value-F Value) where
  seen_keeps : (before : List Object) (w : Value-F Value) (s : Server) (o : Option Value) → seen_as kind w ≡ o → IsWholeForm (length s.table) w → TableKeeps classes root before s.table
      → ReplyKeeps classes root before (IsOfKind kind) (IsCallFault at target) (replies at (known wrong_kind o) s)
  seen_keeps before w s (Some u) e h t = (seen_fits (length s.table) kind w u h e, t)
  seen_keeps before w s None e h t = (plain_fallen at target 11 (omega arith) (omega arith), t)

  -- outside of all methods
  abbrev outside : Place
  outside = record { this = None; remote = true; scope = [] }

  returned_keeps : (k : type.Kind) (before : List Object) (o : Outcome Value) → TableFits classes root before
      → Ends (context (of_service classes) outside) [] [] (OfKind (context (of_service classes) outside) k) (classes_of before) o
      → ReplyKeeps classes root before (IsOfKind kind) (IsCallFault at target) (returned at kind o)
  returned_keeps k before (Gave v l) h e =
      seen_keeps before (out-Value v) (server_of l) (seen_as kind (out-Value v)) refl (subst (λ n. IsWholeForm n (out-Value v)) (classes_count l.heap) (whole (classes_of l.heap) k v e.gives))
      (table_after classes root before l.heap h e.state.holds.heap_fits e.grown)
  returned_keeps k before (Faulted r l) h e = (
    record { here = refl; fault = record { least = e.fault.least; most = omega (arith, e.fault.most); text = e.fault.text; plain = e.fault.plain }; kind = λ c. absurd (omega (arith, c, e.fault.most)) },
    table_after classes root before l.heap h e.state.heap_fits e.grown,
  )

  pub invoke_keeps : (method : List ℕ) (args : List Value) (s : Server) → TableFits classes root s.table → All IsBounded args
      → ReplyKeeps classes root s.table (IsOfKind kind) (IsCallFault at target) (invoke classes at kind target method args s)
  invoke_keeps method args s fits bounded =
      let t = table_same classes root s.table fits in
      let go = λ (c : ℕ × List Value) (s1 : Server). returned at kind (served classes at c.0 method c.1 s1) in
      known_keeps classes root s.table (IsOfKind kind) (IsCallFault at target) at faults.kind (remote_object target) _ s go t
      (λ none. record { here = refl; fault = record { least = omega arith; most = omega arith; text = empty_text; plain = inr refl }; kind = λ e. none }) (λ object is_remote.
      known_keeps classes root s.table (IsOfKind kind) (IsCallFault at target) at no_method (method_of classes s.table object method) _ s go t
      (λ none. plain_fallen at target 9 (omega arith) (omega arith)) (λ m found.
      known_keeps classes root s.table (IsOfKind kind) (IsCallFault at target) at bad_arguments (taken_all s.table m.signature.params args) _ s go t
      (λ none. plain_fallen at target 10 (omega arith) (omega arith)) (λ values taken.
      let o = and_then_some (λ p. method_of_class classes p.class method) (slice_get s.table object) m found in
      let c = and_then_some (λ d. method_named d.methods method) (class_named classes (o.0).class) m o.2 in
      let has : HasMethod (of_service classes) (o.0).class method m = record { of_class = c.0; found = c.1; method = c.2 } in
      let call_fits : CallFits (of_service classes) (o.0).class method m (classes_of s.table) (value.Ref object) values = record {
        has = has;
        on = object_fits [] (classes_of s.table) (o.0).class object refl (class_at s.table object o.0 o.1);
        args_fit = values_taken s.table m.signature.params args values bounded taken;
      } in
      let stands : Stands (of_service classes) outside (begun s) = record { own = tt; fits = record { holds = record { names_fit = tt; heap_fits = fits.heap_fits }; count = refl } } in
      returned_keeps (type.kind_of m.signature.result) s.table (served classes at object method values s) fits
      ((services_end classes typed formed).calls outside (o.0).class method m (value.Ref object) values at s.fuel (begun s) call_fits stands))))

pub calls_keep : CallsKeep
calls_keep classes typed formed root at kind target method args s fits bounded = invoke_keeps classes typed formed root at kind target method args s fits bounded
