-- What reading a source as a service tells of it.
use Rattle.std.proofs.Common.{◌≡◌, ℕ, List, Option, Some, None, option_map, Result, Ok, Err, ap, subst}
use Rattle.rb_trees.specs.Outcome.{Refused, Refuses, Gives, Tells, refused_as}
use Rattle.rb_trees.specs.declared.stores.StoreError.{StoreError}
use Rattle.rb_trees.specs.declared.reading.ReadError.{ReadError}
use Rattle.rb_trees.specs.declared.services.Object.{Object}
use Rattle.rb_trees.specs.mirror.Services.{Service, ServiceText}
use Rattle.rb_meaning_bytes.specs.grammar.Sources.{ReadService}
use Rattle.rb_meaning_types.specs.Violations.{Violation, Checked}
use Rattle.rb_meaning_types.specs.Stores.{Stored, StoreRefusal, Read, Types, store_refusal, service_of}
use Rattle.rb_meaning.specs.ServiceSources.{ReadsAsService, unread, of_text}

-- what a source is, or why it is no service
abbrev Outcome : Type 0
Outcome = Stored (Service × List Object)

-- a violation of classes, in the words of services
pub typed : (rule : Checked (Unit {0})) (v : Option Violation) → Refuses v rule → Refuses (option_map Types v) (refused_as Types rule)
typed rule None e = tt
typed rule (Some v) e = ap (refused_as Types) e

module _ (source : List ℕ) where
  -- what the text of a source is, the source is
  pub is_of : (t : ServiceText) (outcome : Outcome) → ReadService source (Ok t) → service_of t ≡ outcome → ReadsAsService source outcome
  is_of t outcome read e = subst (ReadsAsService source) e (of_text read)

  refused_of : (t : ServiceText) (d : Option StoreRefusal) → ReadService source (Ok t) → Refuses d (service_of t) → Refused (ReadsAsService source) d
  refused_of t None read e = tt
  refused_of t (Some d) read e = is_of t (Err d) read e

  pub told : {X : Type 0} (view : X → Service × List Object) (t : ServiceText) (result : Result X StoreError) → ReadService source (Ok t) → Gives view store_refusal result (service_of t)
      → Tells view store_refusal result (ReadsAsService source)
  told view t (Ok x) read e = is_of t (Ok (view x)) read e
  told view t (Err error) read e = refused_of t (store_refusal error) read e

  -- a source that has one outcome as a text has one as a service
  pub one_outcome : ((one other : Result ServiceText ReadError) → ReadService source one → ReadService source other → one ≡ other) → (one other : Outcome) → ReadsAsService source one → ReadsAsService source other → one ≡ other
  one_outcome texts _ _ (unread {error = e} r) (unread {error = f} s) = let same : Err e ≡ Err f = texts (Err e) (Err f) r s in let inside : e ≡ f = cc in ap (λ x. Err (Read x)) inside
  one_outcome texts _ _ (unread {error = e} r) (of_text {text = t} s) = let wrong = texts (Err e) (Ok t) r s in cc
  one_outcome texts _ _ (of_text {text = t} r) (unread {error = e} s) = let wrong = texts (Ok t) (Err e) r s in cc
  one_outcome texts _ _ (of_text {text = t} r) (of_text {text = u} s) = let same : Ok t ≡ Ok u = texts (Ok t) (Ok u) r s in let inside : t ≡ u = cc in ap service_of inside

  came : (outcome : Result ServiceText ReadError) → ReadService source outcome → ((one : Outcome) × ReadsAsService source one)
  came (Ok t) r = (service_of t, of_text r)
  came (Err e) r = (Err (Read e), unread r)

  -- a source that has an outcome as a text has one as a service
  pub some_outcome : (outcome : Result ServiceText ReadError) × ReadService source outcome → ((one : Outcome) × ReadsAsService source one)
  some_outcome o = came o.0 o.1
