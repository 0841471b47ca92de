-- What a cursor tells of the innermost.
use Rattle.std.proofs.Common.{◌≡◌, ◌-◌, ◌<◌, ℕ, zero, suc, List, ◌∷◌, refl, ap, sym, ◌∙◌, arith, Ok, Err, Option, Some, None, Bool, true, false, is_some, option_map}
use Rattle.rb_trees.specs.mirror.Forests.{Node, nodes_from}
use Rattle.rb_meaning_bytes.specs.formats.Formats.{times}
use Rattle.rb_trees.specs.declared.forests.NodeFault.{NodeFault}
use Rattle.rb_meaning_bytes.specs.formats.Reading.{Fault, Read, read}
use Rattle.rb_meaning_bytes.specs.formats.Forests.{end, node}
use Rattle.rb_meaning_bytes.specs.Fits.{step_of}
use Rattle.rb_wire_forest.specs.declared.cursor.Cursor.{Cursor}
use Rattle.rb_wire_forest.specs.Fronts.{EndsAt}
use Rattle.rb_wire_forest.specs.Passed.{behind, tested}
use Rattle.rb_wire_forest.specs.Opens.{Open, AtRows, Below, all_open, on_read, rows_open}
use Rattle.rb_wire_forest.specs.CursorSteps.{has_entry, next_fault, ends_early}
use Rattle.rb_wire_forest.specs.Opened.{opened}
use Rattle.rb_wire_forest.proofs.CursorTook.{rows_shown, end_open, entry_open}
use Rattle.rb_wire_forest.proofs.CursorWalked.{top, outer, whole_is, opened_is, none_of, fault_is, has_ending}
use Rattle.rb_wire_forest.proofs.Ahead.{at_rows}
use Rattle.rb_wire_forest.proofs.InArray.{below_rows}
use Rattle.rb_wire_forest.proofs.CursorClosed.{rows_now, turns_pass}
use Rattle.rb_wire_forest.proofs.EndedEarly.{last_turn}

pub no_entry_in_rows : (s : Cursor) → is_some (top s).turns ≡ true → has_entry (opened s) ≡ false
no_entry_in_rows s h = go (top s).turns refl h
  where
    go : (t : Option ℕ) → (top s).turns ≡ t → is_some t ≡ true → has_entry (opened s) ≡ false
    go (Some count) i j = let r = rows_shown s.version (top s) (outer s) s.rest.now count i (whole_is s) in ap has_entry (opened_is s (AtRows r.0 ∷ r.1) r.3)
    go None i j = absurd cc

pub no_entry_at_end : (s : Cursor) → is_some (top s).turns ≡ false → (top s).entries ≡ 0 → has_entry (opened s) ≡ false
no_entry_at_end s h e = let r = end_open s.version (top s) (outer s) s.rest.now (none_of (top s).turns h) e (whole_is s) in ap has_entry (opened_is s _ r.2)

pub entry_there : (s : Cursor) → is_some (top s).turns ≡ false → 0 < (top s).entries → has_entry (opened s) ≡ true
entry_there s h e = let r = entry_open s.version (top s) (outer s) s.rest.now (none_of (top s).turns h) e (whole_is s) in ap has_entry (opened_is s _ r.4)

pub step_at_end : (s : Cursor) (step : Option ℕ) → is_some (top s).turns ≡ false → (top s).entries ≡ 0 → EndsAt s.version s.rest.now step → step ≡ step_of (next_fault (opened s))
step_at_end s step h e k = go (read (end s.version) s.rest.now) refl
  where
    go : (r : Read (Option NodeFault)) → read (end s.version) s.rest.now ≡ r → step ≡ step_of (next_fault (opened s))
    go (Ok x) i = k x.0 x.1 i ∙ ap step_of (fault_is s x.0 x.1 h e i)
    go (Err d) i = absurd (has_ending s d (none_of (top s).turns h) e i)

-- ---- the turns of the innermost Rows

-- In a node there are none.
pub no_turn_open : (s : Cursor) → (top s).turns ≡ None → ends_early (opened s) ≡ false
no_turn_open s h = go (top s).entries refl
  where
    go : (n : ℕ) → (top s).entries ≡ n → ends_early (opened s) ≡ false
    go zero e = let r = end_open s.version (top s) (outer s) s.rest.now h e (whole_is s) in ap ends_early (opened_is s _ r.2)
    go (suc n) e = let r = entry_open s.version (top s) (outer s) s.rest.now h (omega (arith, e)) (whole_is s) in ap ends_early (opened_is s _ r.4)

abbrev and_bytes : Bool → List ℕ → Bool × List ℕ
and_bytes b rest = (b, rest)

-- The bytes tell whether a fault ends the last.
pub last_turn_shown : (s : Cursor) (turns : ℕ) (early : Bool) (rest : List ℕ) → (top s).turns ≡ Some turns
    → tested last_turn (read (times turns (node s.version (64 - s.depth))) s.rest.now) ≡ Ok (early, rest) → early ≡ ends_early (opened s)
unfolding rows_open
last_turn_shown s turns early rest h t =
    go (read (times turns (node s.version (64 - s.depth))) s.rest.now) t (sym (rows_now s turns h)) (ap is_some (sym (rows_now s turns h)) ∙ whole_is s)
  where
    below : Below
    below = below_rows s.version (top s) (outer s)

    shown : (turns : List Node) (rest : List ℕ) (o : Option (List Open)) → below rest ≡ o → option_map (λ os. AtRows (nodes_from turns) ∷ os) o ≡ all_open s.version (top s ∷ outer s) s.rest.now
        → is_some (option_map (λ os. AtRows (nodes_from turns) ∷ os) o) ≡ true → last_turn turns ≡ ends_early (opened s)
    shown turns rest (Some os) e is whole = sym (ap ends_early (opened_is s (AtRows (nodes_from turns) ∷ os) (sym is)))
    shown turns rest None e is whole = absurd cc

    go : (r : Read (List Node)) → tested last_turn r ≡ Ok (early, rest) → on_read r (at_rows below) ≡ all_open s.version (top s ∷ outer s) s.rest.now → is_some (on_read r (at_rows below)) ≡ true
        → early ≡ ends_early (opened s)
    go (Ok x) i is whole =
        let e : and_bytes (last_turn x.0) x.1 ≡ and_bytes early rest = cc in
        sym (ap (λ y. y.0) e) ∙ shown x.0 x.1 (below x.1) refl is whole
    go (Err d) i is whole = absurd cc

-- They are nodes.
pub turns_tell : (s : Cursor) (turns : ℕ) (e : Fault) → (top s).turns ≡ Some turns → tested last_turn (read (times turns (node s.version (64 - s.depth))) s.rest.now) ≡ Err e → ⊥
turns_tell s turns e h t = turns_pass s turns e h (go (read (times turns (node s.version (64 - s.depth))) s.rest.now) t)
  where
    go : (r : Read (List Node)) → tested last_turn r ≡ Err e → behind r ≡ Err e
    go (Ok x) i = absurd cc
    go (Err d) i = cc
