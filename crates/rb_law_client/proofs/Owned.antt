-- Batches stand where all names are of the own side.
use Rattle.std.proofs.Common.{◌≡◌, ◌⊎◌, inl, inr, subst, List, true}
use Rattle.std.specs.List.{Contains}
use Rattle.rb_trees.specs.mirror.Declarations.{Interface, Program}
use Rattle.rb_meaning_types.specs.Kinds as kind
use Rattle.rb_meaning_types.specs.Kinds.{Kind}
use Rattle.rb_meaning_types.specs.Declared.{Declarations, of_program}
use Rattle.rb_law_types.specs.Own.{IsOwnKind, IsOwnPlace}
use Rattle.rb_law_types.specs.Ends.{context}
use Rattle.rb_law_types.specs.Asked.{Site}
use Rattle.rb_law_types.specs.Code.{AreTyped}
use Rattle.rb_law_types.proofs.Known.{Known, typed_known}
use Rattle.rb_law_types.proofs.OwnKinds.{own_parameters, place_added, type_own}
use Rattle.rb_law_unsplit.proofs.Programs.{IsTypedProgram}
use Rattle.rb_law_unsplit.proofs.EachSite.{Spreads, each_site}
use Rattle.rb_law_unsplit.specs.Batches.{program_sites}

-- a batch that stands in an own place
abbrev pub IsOwnSite : Declarations → Site → Type 0
IsOwnSite d b = IsOwnPlace (context d b.place) b.place.scope

item_own : (interfaces : List Interface) (k item : Kind) → (k ≡ kind.ListOf item) ⊎ (k ≡ kind.RowsOf item) → IsOwnKind interfaces k → IsOwnKind interfaces item
item_own interfaces k item (inl e) own = subst (IsOwnKind interfaces) e own
item_own interfaces k item (inr e) own = absurd (subst (IsOwnKind interfaces) e own)

own_spreads : (d : Declarations) → Known d → Spreads d (λ q. IsOwnPlace (context d q) q.scope) (IsOwnSite d)
own_spreads d known = record {
  to_name = λ q name fixed e k typed no_unit h. place_added (context d q) q.scope (record { name = name; kind = k; fixed = fixed }) h (type_own (context d q) known q.scope h e k typed);
  to_turn = λ q name e k item typed over h. place_added (context d q) q.scope (record { name = name; kind = item; fixed = true }) h (item_own d.interfaces k item over (type_own (context d q) known q.scope h e k typed));
  to_catch = λ q name h. place_added (context d q) q.scope (record { name = name; kind = kind.Text; fixed = true }) h tt;
  to_batch = λ b after t h. h;
}

pub program_owned : (p : Program) → AreTyped (of_program p) → IsTypedProgram p → (b : Site) → Contains (program_sites p) b → IsOwnSite (of_program p) b
program_owned p declared t =
    let d = of_program p in
    let known = typed_known d declared in
    each_site p (λ q. IsOwnPlace (context d q) q.scope) (IsOwnSite d) (own_spreads d known) t
    (λ i k within. let class = known.classes i k within in λ j m inside. (class.own, own_parameters d _ (class.methods j m inside).params)) tt
