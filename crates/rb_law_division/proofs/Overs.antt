-- The part of a carried loop reads the turns over the items of its list.
use Rattle.std.proofs.Common.{◌≡◌, ◌≤◌, sym, ap, subst, arith, ℕ, zero, suc, List, [], ◌∷◌, length, false, All, get_or, slice_get, Some, Err}
use Rattle.rb_trees.specs.Outcome.{known, ◌>>=◌}
use Rattle.rb_trees.specs.declared.values.Value.{Value}
use Rattle.rb_trees.specs.declared.values.Value.TheOpen.{Value-F}
use Rattle.rb_trees.specs.declared.values.Value.TheViews.{out-Value}
use Rattle.rb_trees.specs.declared.services.Object.{Object}
use Rattle.rb_trees.specs.mirror.Remainders as part_of
use Rattle.rb_trees.specs.mirror.Remainders.{Parts, MoreParts}
use Rattle.rb_meaning_bytes.specs.Fits.{no_kind, parts_read}
use Rattle.rb_meaning_bytes.specs.formats.Items.{form_items, items_of}
use Rattle.rb_meaning_types.specs.Fits.{AreItems}
use Rattle.rb_meaning_code.specs.Faults as faults
use Rattle.rb_meaning_code.specs.Remote.{Server}
use Rattle.rb_meaning_code.specs.ScriptRun.{Ground, Ran, on_reply, turns, turn_over, walked, items_in, items_of as script_items}
use Rattle.rb_meaning_split.specs.Client.{lengths}
use Rattle.rb_law_types.specs.Kept.{Fair}
use Rattle.rb_law_division.proofs.Lists.{recursively}
use Rattle.rb_law_division.proofs.Early.{EndsEarly, AreTurns, turns_counted, turn_early}
use Rattle.rb_law_division.proofs.Reading.{raises_here, Walks, TurnWalks, turns_walk, walks_over}
use Rattle.rb_law_division.proofs.Replied.{reply_walks, stops}
use Rattle.rb_law_division.proofs.Sends.{Serves, rule_serves}

-- the length of an input that is a list
length_here : (vs : List Value) (n : ℕ) (v : Value) → slice_get vs n ≡ Some v → get_or (lengths vs) n 0 ≡ items_of v
length_here [] n v e = absurd (cc e)
length_here (w ∷ vs) zero v e = let same : w ≡ v = cc e in ap items_of same
length_here (w ∷ vs) (suc n) v e = length_here vs n v e

-- of what the tables and the items are
module _ (Good : List Object → Type 0) (g : Ground) (P : Value → Type 0) where
  -- how long the lists of the inputs are
  abbrev lens : List ℕ
  lens = lengths g.inputs

  abbrev Reads : ℕ → Parts → Ran → Type 0
  Reads n ps r = Walks lens Good n (λ w. parts_read lens ps w) r

  -- a turn over an item
  item_walks : (n at : ℕ) (body : Parts) (block : Server → Ran) (item : Value) (s : Server) → Reads (suc n) body (block s) → TurnWalks lens Good n no_kind body (turn_over n at false block item s)
  item_walks n at body block item s h = record { last = h.last; read = h.read; left = h.left; same = h.same; table = h.table }

  -- the items of an input, as many as its length says
  abbrev AreItemsOf : ℕ → List Value → Type 0
  AreItemsOf number items = All P items × (get_or lens number 0 ≡ length items)

  items_fit : (number : ℕ) (w : Value-F Value) → AreItems P w → get_or lens number 0 ≡ form_items w → Fair (AreItemsOf number) (items_in w)
  items_fit number (Value-F.List items) h e = (h.1, e)
  items_fit number Value-F.Unit h e = absurd h
  items_fit number _ h e = absurd h

  items_serve : (at number : ℕ) (v : Value) (s : Server) → slice_get g.inputs number ≡ Some v → AreItems P (out-Value v) → Good s.table → Serves Good (AreItemsOf number) (script_items g at number s)
  items_serve at number v s e h t =
      rule_serves Good (AreItemsOf number) at (known faults.kind (slice_get g.inputs number) >>= λ w. items_in (out-Value w)) s
      (subst (λ o. Fair (AreItemsOf number) (known faults.kind o >>= λ w. items_in (out-Value w))) (sym e) (items_fit number (out-Value v) h (length_here g.inputs number v e))) t

  pub over_walks : (n after at : ℕ) (name list : List ℕ) (number : ℕ) (body : Parts) (ps : Parts) (v : Value) (block : Value → Server → Ran) (go : Server → Ran) (srv : Server) → suc n ≤ after → slice_get g.inputs number ≡ Some v
      → AreItems P (out-Value v) → Good srv.table → ((row : Value) (s : Server) → EndsEarly (block row s)) → ((row : Value) (s : Server) → P row → Good s.table → Reads (suc n) body (block row s))
      → ((s : Server) → Good s.table → Reads after ps (go s))
      → Reads n (MoreParts (part_of.Over n at name list number body) ps) (on_reply n (script_items g at number srv) (λ items s. walked n at (turns (λ item s1. turn_over n at false (block item) item s1) items s) go))
  over_walks n after at name list number body ps v block go srv l e fits t early each more =
      let turn = λ (row : Value) (s1 : Server). turn_over n at false (block row) row s1 in
      reply_walks lens Good (AreItemsOf number) n (λ w. parts_read lens (MoreParts (part_of.Over n at name list number body) ps) w) (script_items g at number srv) (λ items s. walked n at (turns turn items s) go)
      (items_serve at number v srv e fits t) (stops lens n (part_of.Over n at name list number body) ps (raises_here n (Err n))) (λ items s fi t1.
      let t2 = turns turn items s in
      walks_over lens Good n body n at after name list number ps go (omega arith) l more t2.nodes t2.why t2.server
      (subst (λ q. AreTurns q t2.nodes t2.why) (sym fi.1) (turns_counted turn (λ row s1. turn_early n at false (block row) row s1 (λ s2. early row s2)) items s))
      (turns_walk lens Good n no_kind body P turn (λ row s1 fr t3. item_walks n at body (block row) row s1 (each row s1 fr t3)) items s (recursively P items fi.0) t1))
