-- Objects seen through their layouts.
use Rattle.std.proofs.Common.{◌≡◌, ◌<◌, ℕ, zero, suc, List, [], ◌∷◌, ◌++◌, map, length, slice_get, slice_set, None, Some, Result, refl, sym, ap, subst, ◌∙◌, arith}
use Rattle.std.specs.List.{zip}
use Rattle.std.specs.Option.{option_map}
use Rattle.std.proofs.lemmas.List.{map_push, length-map}
use Rattle.std.proofs.lemmas.Option.{slice_get-map, slice_get_within}
use Rattle.rb_trees.specs.declared.values.Value.{Value}
use Rattle.rb_trees.specs.declared.services.Object.{Object}
use Rattle.rb_heap.specs.declared.layouts.Layout.{Layout}
use Rattle.rb_heap.specs.declared.stops.SetStop.{SetStop}
use Rattle.rb_heap.specs.declared.stored.Stored.{Stored}
use Rattle.rb_heap.specs.Seen.{names_of, values_of, layout_of, laid_out, object_seen, objects_seen, IsLaidOut, AreLaidOut, Extends}
use Rattle.rb_heap.specs.Views.{object_with}
use Rattle.rb_heap.specs.Writes.{SetsField, SetsNamed}
use Rattle.rb_heap.proofs.Written.{object_written}

-- names and values that were those of fields are these fields
zipped : (fields : List (List ℕ × Value)) → zip (names_of fields) (values_of fields) ≡ fields
zipped [] = refl
zipped (f ∷ fs) = ap (λ rest. f ∷ rest) (zipped fs)

-- the layout of an object of the heap is there, with a name for each value
laid_at : (layouts : List Layout) (objects : List Stored) (n : ℕ) (s : Stored) → AreLaidOut layouts objects → slice_get objects n ≡ Some s → IsLaidOut layouts s
laid_at layouts [] n s laid at = cc
laid_at layouts (o ∷ os) zero s laid at = let same : o ≡ s = cc in subst (IsLaidOut layouts) same laid.0
laid_at layouts (o ∷ os) (suc n) s laid at = laid_at layouts os n s laid.1 at

pub never_unlaid : (layouts : List Layout) (objects : List Stored) (n : ℕ) (s : Stored) → AreLaidOut layouts objects → slice_get objects n ≡ Some s → slice_get layouts s.layout ≡ None → ⊥
never_unlaid layouts objects n s laid at none = let there = laid_at layouts objects n s laid at in let both : Some there.0 ≡ None = sym there.1 ∙ none in cc

pub named_at : (layouts : List Layout) (objects : List Stored) (n : ℕ) (s : Stored) (l : Layout) → AreLaidOut layouts objects → slice_get objects n ≡ Some s → slice_get layouts s.layout ≡ Some l
    → length l.names ≡ length s.values
named_at layouts objects n s l laid at place =
    let there = laid_at layouts objects n s laid at in
    let both : Some there.0 ≡ Some l = sym there.1 ∙ place in
    let same : there.0 ≡ l = cc in
    subst (λ k. length k.names ≡ length s.values) same there.2

-- the object of a number
pub seen_at : (layouts : List Layout) (objects : List Stored) (n : ℕ) (s : Stored) (l : Layout) → slice_get objects n ≡ Some s → slice_get layouts s.layout ≡ Some l
    → slice_get (objects_seen layouts objects) n ≡ Some (object_with l.class l.names s.values)
seen_at layouts objects n s l at laid =
    slice_get-map (object_seen layouts) objects n ∙ ap (option_map (object_seen layouts)) at ∙ ap (λ o. Some (laid_out o s.values)) laid

-- a layout stays where it stands when layouts are added at the end
stays : {A : Type 0} (xs more : List A) (n : ℕ) → n < length xs → slice_get (xs ++ more) n ≡ slice_get xs n
stays [] more n l = absurd (omega arith)
stays (x ∷ xs) more zero l = refl
stays (x ∷ xs) more (suc n) l = stays xs more n (omega arith)

within : (layouts : List Layout) (s : Stored) → IsLaidOut layouts s → s.layout < length layouts
within layouts s laid = slice_get_within layouts s.layout laid.0 laid.1

seen_more : (layouts more : List Layout) (objects : List Stored) → AreLaidOut layouts objects → objects_seen (layouts ++ more) objects ≡ objects_seen layouts objects
seen_more layouts more [] laid = refl
seen_more layouts more (o ∷ os) laid =
    ap (λ l. laid_out l o.values ∷ objects_seen (layouts ++ more) os) (stays layouts more o.layout (within layouts o laid.0))
    ∙ ap (λ rest. object_seen layouts o ∷ rest) (seen_more layouts more os laid.1)

laid_more : (layouts more : List Layout) (objects : List Stored) → AreLaidOut layouts objects → AreLaidOut (layouts ++ more) objects
laid_more layouts more [] laid = tt
laid_more layouts more (o ∷ os) laid =
    let place = stays layouts more o.layout (within layouts o laid.0) ∙ laid.0.1 in
    ((laid.0.0, place, laid.0.2), laid_more layouts more os laid.1)

-- so the objects are seen as before
pub seen_extended : (before after : List Layout) (objects : List Stored) → Extends before after → AreLaidOut before objects → objects_seen after objects ≡ objects_seen before objects
seen_extended before after objects extends laid = ap (λ ls. objects_seen ls objects) extends.1 ∙ seen_more before extends.0 objects laid

pub laid_extended : (before after : List Layout) (objects : List Stored) → Extends before after → AreLaidOut before objects → AreLaidOut after objects
laid_extended before after objects extends laid = subst (λ ls. AreLaidOut ls objects) (sym extends.1) (laid_more before extends.0 objects laid)

laid_push : (layouts : List Layout) (objects : List Stored) (s : Stored) → AreLaidOut layouts objects → IsLaidOut layouts s → AreLaidOut layouts (objects ++ s ∷ [])
laid_push layouts [] s laid there = (there, tt)
laid_push layouts (o ∷ os) s laid there = (laid.0, laid_push layouts os s laid.1 there)

-- and a stored object is seen at the end
pub seen_added : (before after : List Layout) (objects : List Stored) (o : Object) (s : Stored) → Extends before after → AreLaidOut before objects
    → slice_get after s.layout ≡ Some (layout_of o) → s.values ≡ values_of o.fields → objects_seen after (objects ++ s ∷ []) ≡ objects_seen before objects ++ o ∷ []
seen_added before after objects o s extends laid place values =
    let own : object_seen after s ≡ o =
    ap (λ l. laid_out l s.values) place ∙ ap (λ vs. object_with o.class (names_of o.fields) vs) values ∙ ap (λ fs. record o { fields = fs }) (zipped o.fields) in
    map_push (object_seen after) objects s ∙ ap (λ x. objects_seen after objects ++ x ∷ []) own
    ∙ ap (λ seen. seen ++ o ∷ []) (seen_extended before after objects extends laid)

pub laid_added : (before after : List Layout) (objects : List Stored) (o : Object) (s : Stored) → Extends before after → AreLaidOut before objects
    → slice_get after s.layout ≡ Some (layout_of o) → s.values ≡ values_of o.fields → AreLaidOut after (objects ++ s ∷ [])
laid_added before after objects o s extends laid place values =
    let even = length-map o.fields (λ f. f.0) ∙ sym (length-map o.fields (λ f. f.1)) ∙ ap length (sym values) in
    laid_push after objects s (laid_extended before after objects extends laid) (layout_of o, place, even)

-- an object that is stored anew under the same layout
seen_set : {A B : Type 0} (see : A → B) (xs : List A) (n : ℕ) (x : A) → map see (slice_set xs n x) ≡ slice_set (map see xs) n (see x)
seen_set see [] n x = refl
seen_set see (y ∷ ys) zero x = refl
seen_set see (y ∷ ys) (suc n) x = ap (λ rest. see y ∷ rest) (seen_set see ys n x)

pub seen_written : (layouts : List Layout) (objects : List Stored) (n : ℕ) (name : List ℕ) (value : Value) (s : Stored) (l : Layout) (after : List Value) (r : Result (Unit {0}) SetStop)
    → slice_get objects n ≡ Some s → slice_get layouts s.layout ≡ Some l → SetsNamed (zip l.names s.values) name value r (zip l.names after)
    → SetsField (objects_seen layouts objects) n name value r (objects_seen layouts (slice_set objects n (record s { values = after })))
seen_written layouts objects n name value s l after r at laid replaces =
    let heap = objects_seen layouts objects in
    let set : objects_seen layouts (slice_set objects n (record s { values = after })) ≡ slice_set heap n (object_with l.class l.names after) =
    seen_set (object_seen layouts) objects n (record s { values = after }) ∙ ap (λ o. slice_set heap n (laid_out o after)) laid in
    subst (λ seen. SetsField heap n name value r seen) (sym set)
    (object_written heap n name value (object_with l.class l.names s.values) (zip l.names after) r (seen_at layouts objects n s l at laid) replaces)

pub laid_written : (layouts : List Layout) (objects : List Stored) (n : ℕ) (s : Stored) (after : List Value) → AreLaidOut layouts objects → slice_get objects n ≡ Some s
    → length after ≡ length s.values → AreLaidOut layouts (slice_set objects n (record s { values = after }))
laid_written layouts [] n s after laid at even = tt
laid_written layouts (o ∷ os) zero s after laid at even =
    let same : o ≡ s = cc in
    let own = subst (IsLaidOut layouts) same laid.0 in
    ((own.0, own.1, own.2 ∙ sym even), laid.1)
laid_written layouts (o ∷ os) (suc n) s after laid at even = (laid.0, laid_written layouts os n s after laid.1 at even)
