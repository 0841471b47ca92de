-- What an exchange over a link gives.
use Rattle.std.proofs.Common.{◌≡◌, inl, inr, refl, sym, ap, ◌∙◌, subst, arith, ℕ, List, [], ◌∷◌, ◌++◌, append-nil}
use Rattle.std.proofs.lemmas.List.{append_cancel_left}
use Rattle.std.specs.Prelude.{true, false, Option, None, Some, Result, Ok, Err}
use Rattle.rb_trees.specs.Outcome.{Refuses}
use Rattle.rb_trees.specs.declared.services.Object.{Object}
use Rattle.rb_trees.specs.mirror.Forests.{Node}
use Rattle.rb_trees.specs.mirror.Services.{Service}
use Rattle.rb_meaning_bytes.specs.Fits.{Unfit, At, Extra}
use Rattle.rb_meaning_bytes.specs.formats.Fields.{IsBytes}
use Rattle.rb_meaning_bytes.specs.formats.Formats.{Format, FirstViolation, Spells}
use Rattle.rb_meaning_bytes.specs.formats.Forests.{forest_message}
use Rattle.rb_meaning_bytes.specs.formats.Messages.{Sent, Refused}
use Rattle.rb_meaning_bytes.specs.formats.Payloads.{IsForestOf}
use Rattle.rb_meaning_bytes.specs.formats.ScriptPayloads as script
use Rattle.rb_meaning_bytes.proofs.formats.ForestVersions.{forest_any}
use Rattle.rb_meaning.specs.Answers.{Answers, forest_kind, performs, refusal_kind, refuses}
use Rattle.rb_meaning.specs.Links.{Behind, MayAnswer, Pair}
use Rattle.rb_law_client.specs.Clients.{sent_run}
use Rattle.rb_base.specs.Links.{Finds, FindsFitting, FindsStanding, IsLater, IsListedWhereTold, IsReplyKind, KeepsCause, NotesNone, ServesAsTold, faults_after, pairs_after}
use Rattle.rb_base.specs.declared.links.Link as links
use Rattle.rb_base.specs.declared.links.LinkStop.{LinkStop}
use Rattle.rb_base.specs.declared.links.LinkStop.TheVariants as link_stops
use Rattle.rb_base.specs.declared.links.Reply.{Reply}
use Rattle.rb_wire_forest.specs.Misfits.{unfit}
use Rattle.rb_wire_forest.specs.Opened.{root_of}
use Rattle.rb_wire_forest.specs.Payloads.{Means, Violation, spelled, violated}
use Rattle.rb_wire_forest.specs.declared.forest.Forest.{Forest}
use Rattle.rb_wire_forest.specs.declared.fitting.Misfit.{Misfit}
use Rattle.rb_wire_forest.specs.declared.fitting.Misfit.TheVariants as amiss
use Rattle.rb_client.specs.Demands.{Demand, meets}
use Rattle.rb_client.specs.Replies.{GivesNoNode, GotBad, GotFault, GotReply, HasReason, IsAlone, IsForest, IsMisfit, Reads, Replied, Takes, WhereSent, more_pairs, pair_of, pairs_of, refused_pairs}
use Rattle.rb_client.specs.Servers.{HasServed, PerformedAll}
use Rattle.rb_client.specs.Serving.{AsFound, CountsOne, GivesMisfit, GivesReply, LosesSent, MayPerform, server_of, table_left}
use Rattle.rb_client.specs.declared.stops.BadReason.{BadReason}
use Rattle.rb_client.specs.declared.stops.BadReason.TheVariants as reason
use Rattle.rb_client.specs.declared.stops.RunStop.{RunStop}
use Rattle.rb_client.specs.declared.stops.RunStop.TheVariants as stops

-- What is read in a payload.

-- the violation that a payload has
violation_of : {A : Type 0} (F : Format A) (payload : List ℕ) (v : Violation) (m : Result A Violation) → m ≡ Err v → Means F payload m → FirstViolation F payload v.0 v.1
violation_of F payload v _ e (spelled x s) = absurd (cc e)
violation_of F payload v _ e (violated u w) = let same : u ≡ v = cc e in subst (λ y. FirstViolation F payload y.0 y.1) same w

pub violates : (payload : List ℕ) (number at : ℕ) → Means forest_message payload (Err (number, at)) → FirstViolation forest_message payload number at
violates payload number at m = violation_of forest_message payload (number, at) (Err (number, at)) refl m

-- the value that a payload spells
spelled_of : {A : Type 0} (F : Format A) (payload : List ℕ) (x : A) (m : Result A Violation) → m ≡ Ok x → Means F payload m → Spells F payload x
spelled_of F payload x _ e (spelled y s) = let same : y ≡ x = cc e in subst (Spells F payload) same s
spelled_of F payload x _ e (violated u w) = absurd (cc e)

-- what is read of a payload is all that it comes to
abbrev pub Only : List ℕ → Result Node Violation → Type 0
Only payload read = (meant : Result Node Violation) → Means forest_message payload meant → meant ≡ read

alone : (payload : List ℕ) (n : Node) → Only payload (Ok n) → IsAlone payload n
alone payload n only other s = cc (only (Ok other) (spelled other s))

pub forest_so : (demand : Demand) (payload : List ℕ) (n : Node) → Means forest_message payload (Ok n) → Only payload (Ok n) → meets demand n ≡ Ok tt → IsForest demand forest_kind payload n × IsAlone payload n
forest_so demand payload n means only e = (record { kind_so = refl; spells = spelled_of forest_message payload n (Ok n) refl means; fits_so = e }, alone payload n only)

pub no_node : (demand : Demand) (payload : List ℕ) (v : Violation) → Only payload (Err v) → GivesNoNode demand forest_kind payload
no_node demand payload v only n f = let e = only (Ok n) (spelled n f.spells) in absurd (cc e)

unfit_so : (misfit : Misfit) (r : Result (Unit {0}) Unfit) → Refuses (unfit misfit) r → (why : Unfit) × (r ≡ Err why) × (unfit misfit ≡ Some why)
unfit_so (amiss.At step) r e = (At step, e, refl)
unfit_so amiss.Extra r e = (Extra, e, refl)

pub misfit_so : (demand : Demand) (payload : List ℕ) (n : Node) (misfit : Misfit) → Means forest_message payload (Ok n) → Only payload (Ok n) → Refuses (unfit misfit) (meets demand n)
    → IsMisfit demand forest_kind payload (unfit misfit) × GivesNoNode demand forest_kind payload
misfit_so demand payload n misfit means only e =
    let u = unfit_so misfit (meets demand n) e in (
      record { node = n; why = u.0; kind_so = refl; spells = spelled_of forest_message payload n (Ok n) refl means; misfits = u.1; cause_so = u.2 },
      λ other f.
          let fitted : meets demand n ≡ Ok tt = ap (λ m. meets demand m) (sym (alone payload n only other f.spells)) ∙ f.fits_so in
          absurd (cc (fitted, u.1)),
    )

pub refusal_no_node : (demand : Demand) (payload : List ℕ) → GivesNoNode demand refusal_kind payload
refusal_no_node demand payload n f = let e = f.kind_so in absurd (omega (arith, e))

-- why a whole reply is refused
why_so : (why : BadReason) (demand : Demand) (kind : ℕ) (payload : List ℕ) → Reads demand kind payload (Err why) → HasReason why demand kind payload × GivesNoNode demand kind payload
why_so (reason.Cut got) demand kind payload h = absurd h
why_so (reason.Frame at) demand kind payload h = absurd h
why_so (reason.Forest number at) demand kind payload h = h
why_so (reason.Misfit m) demand kind payload h = h
why_so (reason.Refused number at) demand kind payload h = h
why_so reason.Garbled demand kind payload h = h

one_refused : (why : BadReason) (demand : Demand) (kind : ℕ) (payload : List ℕ) (pair : Pair) → Reads demand kind payload (Err why) → refused_pairs why pair ≡ pair ∷ []
one_refused (reason.Cut got) demand kind payload pair h = absurd h
one_refused (reason.Frame at) demand kind payload pair h = absurd h
one_refused (reason.Forest number at) demand kind payload pair h = refl
one_refused (reason.Misfit m) demand kind payload pair h = refl
one_refused (reason.Refused number at) demand kind payload pair h = refl
one_refused reason.Garbled demand kind payload pair h = refl

-- What a server answers to a request that means a script.

-- A payload means one thing.
abbrev pub MeansOne : Type 0
MeansOne = (payload : List ℕ) (meant other : Result Sent Refused) → IsBytes payload → script.Means payload meant → script.Means payload other → meant ≡ other

-- its node's forest, and the table that it leaves
record Gave (service : Service) (table : List Object) (x : Sent) (kind : ℕ) (reply : List ℕ) (after : List Object) : Type 0 where
  kind_is : kind ≡ forest_kind
  spells : IsForestOf x.version reply (sent_run service table x).node
  leaves : after ≡ (sent_run service table x).server.table

gave : MeansOne → (service : Service) (table : List Object) (request : List ℕ) (kind : ℕ) (reply : List ℕ) (after : List Object) → IsBytes request
    → Answers service table request kind reply after → (x : Sent) → script.Means request (Ok x) → Gave service table x kind reply after
gave once service table request _ _ _ bytes (performs y reply m s) x means =
    let same : y ≡ x = cc (once request (Ok y) (Ok x) bytes m means) in
    record {
      kind_is = refl;
      spells = subst (λ z. IsForestOf z.version reply (sent_run service table z).node) same s;
      leaves = ap (λ z. (sent_run service table z).server.table) same;
    }
gave once service table request _ _ _ bytes (refuses wrong reply m s) x means = let same = once request (Err wrong) (Ok x) bytes m means in absurd (cc (same))

-- The link's own clauses as facts of the server.

counts_one : (reply : Reply) (a b : Option Behind) → IsListedWhereTold (Ok reply) a b → CountsOne false a b
counts_one reply (Some a) (Some b) h = (h.0, h.1)
counts_one reply (Some a) None h = absurd h
counts_one reply None (Some b) h = absurd h
counts_one reply None None h = tt

counts_frame : (at : ℕ) (bytes : List ℕ) (a b : Option Behind) → IsListedWhereTold (Err (link_stops.Frame at bytes)) a b → CountsOne false a b
counts_frame at bytes (Some a) (Some b) h = (h.0, h.1)
counts_frame at bytes (Some a) None h = absurd h
counts_frame at bytes None (Some b) h = absurd h
counts_frame at bytes None None h = tt

counts_cut : (got : ℕ) (bytes : List ℕ) (a b : Option Behind) → IsListedWhereTold (Err (link_stops.Cut got bytes)) a b → CountsOne false a b
counts_cut got bytes (Some a) (Some b) h = (h.0, h.1)
counts_cut got bytes (Some a) None h = absurd h
counts_cut got bytes None (Some b) h = absurd h
counts_cut got bytes None None h = tt

counts_failed : (a b : Option Behind) → IsListedWhereTold (Err link_stops.Failed) a b → CountsOne true a b
counts_failed (Some a) (Some b) h = (h.0, h.1)
counts_failed (Some a) None h = absurd h
counts_failed None (Some b) h = absurd h
counts_failed None None h = tt

no_frame : (request : List ℕ) (at : ℕ) (bytes : List ℕ) (a b : Option Behind) → ServesAsTold FindsFitting request (Err (link_stops.Frame at bytes)) a b → ⊥
no_frame request at bytes (Some a) (Some b) h = h
no_frame request at bytes (Some a) None h = h
no_frame request at bytes None b h = h

no_cut : (request : List ℕ) (got : ℕ) (bytes : List ℕ) (a b : Option Behind) → ServesAsTold FindsFitting request (Err (link_stops.Cut got bytes)) a b → ⊥
no_cut request got bytes (Some a) (Some b) h = h
no_cut request got bytes (Some a) None h = h
no_cut request got bytes None b h = h

-- where nothing was noted
none_noted : (a b : Behind) (table : List Object) → IsLater a b → NotesNone a b → b.table ≡ table → HasServed a b [] [] table
none_noted a b table later none is = record {
  service = later.service;
  found_so = none.found ∙ sym (append-nil a.found);
  left_so = none.left ∙ sym (append-nil a.left);
  table_so = is;
}

module _ (once : MeansOne) (request : List ℕ) (bytes : IsBytes request) (x : Sent) (means : script.Means request (Ok x)) where
  given_so : (Found : Finds) (reply : Reply) (a b : Option Behind) → IsListedWhereTold (Ok reply) a b → ServesAsTold Found request (Ok reply) a b → GivesReply Found a b x reply.kind reply.payload.items
  given_so Found reply (Some a) (Some b) listed (table, found, served) =
      let g = gave once a.service table request reply.kind reply.payload.items b.table bytes served.answers x means in
      record {
        table = table;
        found = found;
        served = record { service = listed.1.service; found_so = served.found; left_so = listed.2.left ∙ ap (λ t. a.left ++ t ∷ []) g.leaves; table_so = g.leaves };
        kind_so = g.kind_is;
        forest = g.spells;
      }
  given_so Found reply (Some a) None listed h = absurd h
  given_so Found reply None b listed h = absurd h

  may_perform : (Found : Finds) (a b : Behind) (table : List Object) → Found a table → IsLater a b → NotesNone a b → MayAnswer a.service table request b.table → LosesSent Found a b x
  may_perform Found a b table found later none (inl stays) = record { table = table; found = found; served = inl (none_noted a b table later none stays) }
  may_perform Found a b table found later none (inr (kind, reply, answers)) =
      let g = gave once a.service table request kind reply b.table bytes answers x means in
      record { table = table; found = found; served = inr (none_noted a b (table_left a table x) later none g.leaves) }

  lost_so : (Found : Finds) (a b : Option Behind) → IsListedWhereTold (Err link_stops.Failed) a b → ServesAsTold Found request (Err link_stops.Failed) a b → MayPerform Found a b x
  lost_so Found (Some a) (Some b) listed (table, found, may) = may_perform Found a b table found listed.1 listed.2 may
  lost_so Found (Some a) None listed h = absurd h
  lost_so Found None b listed h = absurd h

-- What an exchange gives.

-- why an exchange of which so many were before has no whole reply
abbrev pub stopped : ℕ → LinkStop → RunStop
stopped done link_stops.Failed = stops.LinkFault done
stopped done (link_stops.Frame at taken) = stops.BadReply done (reason.Frame at) 0 taken
stopped done (link_stops.Cut got taken) = stops.BadReply done (reason.Cut got) 0 taken
stopped done link_stops.Memory = stops.Memory

module _ {L : Type 0} (g : links.Ghosts L) (once : MeansOne) (done : ℕ) (request : List ℕ) (bytes : IsBytes request) (before after : L) where
  abbrev Serves : Result Reply LinkStop → Type 0
  Serves answer = AsFound (g.honest before) (g.quiet before) (λ Found. ServesAsTold Found request answer (server_of g before) (server_of g after))

  -- a whole reply came
  pub replied : (reply : Reply) → IsReplyKind reply.kind → pairs_of g after ≡ more_pairs (pair_of request reply.kind reply.payload.items ∷ []) (pairs_of g before) → g.faults after ≡ g.faults before → g.lends after ≡ g.lends before
      → IsListedWhereTold (Ok reply) (server_of g before) (server_of g after) → Serves (Ok reply) → (g.honest before → g.honest after) → (g.quiet before → g.quiet after) → Replied g done request before (Ok reply) after
  replied reply kind pairs faults lends listed serves stays quiet = record {
    kind_so = kind;
    pairs_so = pairs;
    faults_so = faults;
    lends_so = lends;
    counts = counts_one reply (server_of g before) (server_of g after) listed;
    stays = stays;
    stays_quiet = quiet;
    served = λ x means. record {
      fitting = λ h. given_so once request bytes x means FindsFitting reply (server_of g before) (server_of g after) listed (serves.fitting h);
      standing = λ h q. given_so once request bytes x means FindsStanding reply (server_of g before) (server_of g after) listed (serves.standing h q);
    };
  }

  no_pairs : (told : Option (List Pair)) → told ≡ more_pairs [] told
  no_pairs None = refl
  no_pairs (Some pairs) = ap Some (sym (append-nil pairs))

  -- there was no whole reply
  pub unreplied : (stop : LinkStop) → KeepsCause stop → pairs_of g after ≡ pairs_after request (Err stop) (pairs_of g before) → g.faults after ≡ faults_after (Err stop) (g.faults before) → g.lends after ≡ g.lends before → IsListedWhereTold (Err stop) (server_of g before) (server_of g after)
      → Serves (Err stop) → Replied g done request before (Err (stopped done stop)) after
  unreplied link_stops.Failed cause pairs faults lends listed serves =
      let lost : WhereSent g request before after MayPerform = λ x means. record {
        fitting = λ h. lost_so once request bytes x means FindsFitting (server_of g before) (server_of g after) listed (serves.fitting h);
        standing = λ h q. lost_so once request bytes x means FindsStanding (server_of g before) (server_of g after) listed (serves.standing h q);
      } in
      (refl, record { pairs_so = pairs; faults_so = faults; lends_so = lends; counts = counts_failed (server_of g before) (server_of g after) listed; lost = lost })
  unreplied (link_stops.Frame at taken) cause pairs faults lends listed serves = (
    refl,
    λ demand. record {
      reason_so = (refl, cause);
      pairs_so = pairs ∙ no_pairs (pairs_of g before);
      faults_so = faults;
      lends_so = lends;
      counts = counts_frame at taken (server_of g before) (server_of g after) listed;
      misfit = λ honest x means. absurd (no_frame request at taken (server_of g before) (server_of g after) (serves.fitting honest));
    },
  )
  unreplied (link_stops.Cut got taken) cause pairs faults lends listed serves = (
    refl,
    λ demand. record {
      reason_so = (refl, cause.0, cause.1);
      pairs_so = pairs ∙ no_pairs (pairs_of g before);
      faults_so = faults;
      lends_so = lends;
      counts = counts_cut got taken (server_of g before) (server_of g after) listed;
      misfit = λ honest x means. absurd (no_cut request got taken (server_of g before) (server_of g after) (serves.fitting honest));
    },
  )
  unreplied link_stops.Memory cause pairs faults lends listed serves = tt

-- What a reply that was read gives.

-- A node was replied, in a pair more. Whether the link lends a table is kept. Over an honest link the server gave it, by the
-- script that the request means.
pub record GotNode {L : Type 0} (g : links.Ghosts L) (demand : Demand) (request : List ℕ) (before after : L) (n : Node) : Type 0 where
  pub reply : List ℕ
  pub forest : IsForest demand forest_kind reply n
  pub pairs_so : pairs_of g after ≡ more_pairs (pair_of request forest_kind reply ∷ []) (pairs_of g before)
  pub faults_so : g.faults after ≡ g.faults before
  pub lends_so : g.lends after ≡ g.lends before
  pub counts : CountsOne false (server_of g before) (server_of g after)
  pub stays : g.honest before → g.honest after
  pub stays_quiet : g.quiet before → g.quiet after
  pub served : g.honest before → (x : Sent) → script.Means request (Ok x) → PerformedAll (g.quiet before) (server_of g before) (server_of g after) (x ∷ []) (n ∷ [])

-- What an exchange and the reading of its reply give, of which so many were before it. Nothing is said after want of memory.
abbrev pub Trades : {L : Type 0} → links.Ghosts L → Demand → ℕ → List ℕ → L → Result Node RunStop → L → Type 0
Trades g demand done request before (Ok n) after = GotNode g demand request before after n
Trades g demand done request before (Err (stops.LinkFault k)) after = (k ≡ done) × GotFault g request before after
Trades g demand done request before (Err (stops.BadReply k why kind bytes)) after = (k ≡ done) × GotBad g demand request before after why kind bytes
Trades g demand done request before (Err stops.WriteFault) after = ⊥
Trades g demand done request before (Err stops.Memory) after = Unit {0}

-- which table a reply was noted with is told by the notes
same_found : (a b : Behind) (t u : List Object) → b.found ≡ a.found ++ t ∷ [] → b.found ≡ a.found ++ u ∷ [] → t ≡ u
same_found a b t u e f = let ends = append_cancel_left a.found (t ∷ []) (u ∷ []) (sym e ∙ f) in cc ends

performed_so : (honest quiet : Type 0) (x : Sent) (kind : ℕ) (payload : List ℕ) (n : Node) (a b : Option Behind) → IsAlone payload n → AsFound honest quiet (λ Found. GivesReply Found a b x kind payload) → honest
    → PerformedAll quiet a b (x ∷ []) (n ∷ [])
performed_so honest quiet x kind payload n (Some a) (Some b) is h so =
    let r = h.fitting so in
    let node = (sent_run a.service r.table x).node in
    record {
      found = r.table ∷ [];
      left = table_left a r.table x ∷ [];
      given = (is node (forest_any x.version payload node r.forest), refl, tt);
      fitting = (r.found, tt);
      alone = λ q. let s = h.standing so q in (same_found a b r.table s.table r.served.found_so s.served.found_so ∙ s.found, tt);
      served = r.served;
    }
performed_so honest quiet x kind payload n (Some a) None is h so = absurd (h.fitting so)
performed_so honest quiet x kind payload n None b is h so = absurd (h.fitting so)

misfit_given : (x : Sent) (kind : ℕ) (payload : List ℕ) (demand : Demand) (a b : Option Behind) → GivesNoNode demand kind payload → GivesReply FindsFitting a b x kind payload → GivesMisfit a x demand
misfit_given x kind payload demand (Some a) (Some b) none h =
    let node = (sent_run a.service h.table x).node in
    (h.table, h.found, λ e. none node (record { kind_so = h.kind_so; spells = forest_any x.version payload node h.forest; fits_so = e }))
misfit_given x kind payload demand (Some a) None none h = absurd h
misfit_given x kind payload demand None b none h = absurd h

module _ {L : Type 0} (g : links.Ghosts L) (demand : Demand) (done : ℕ) (request : List ℕ) (before after : L) where
  -- there was no whole reply
  pub untraded : (stop : RunStop) → Replied g done request before (Err stop) after → Trades g demand done request before (Err stop) after
  untraded (stops.LinkFault k) h = h
  untraded (stops.BadReply k why kind bytes) h = (h.0, h.1 demand)
  untraded stops.WriteFault h = absurd h
  untraded stops.Memory h = tt

  module _ (reply : Reply) (got : GotReply g request before after reply) where
    -- its forest was read
    pub traded : (f : Forest) → Takes demand done reply.kind reply.payload.items (Ok f) → Trades g demand done request before (Ok (root_of f)) after
    traded f h = record {
      reply = reply.payload.items;
      forest = record { kind_so = refl; spells = h.0.spells; fits_so = h.0.fits_so };
      pairs_so = got.pairs_so ∙ ap (λ k. more_pairs (pair_of request k reply.payload.items ∷ []) (pairs_of g before)) h.0.kind_so;
      faults_so = got.faults_so;
      lends_so = got.lends_so;
      counts = got.counts;
      stays = got.stays;
      stays_quiet = got.stays_quiet;
      served = λ honest x means. performed_so (g.honest before) (g.quiet before) x reply.kind reply.payload.items (root_of f) (server_of g before) (server_of g after) h.1 (got.served x means) honest;
    }

    -- it was refused
    pub unread : (stop : RunStop) → Takes demand done reply.kind reply.payload.items (Err stop) → Trades g demand done request before (Err stop) after
    unread (stops.LinkFault k) h = absurd h
    unread (stops.BadReply k why kept payload) h =
        let w = why_so why demand reply.kind reply.payload.items h.3 in (
          h.0,
          record {
            reason_so = subst (λ z. HasReason why demand z payload) (sym h.1) (subst (HasReason why demand reply.kind) (sym h.2) w.0);
            pairs_so = got.pairs_so ∙ ap (λ z. more_pairs z (pairs_of g before)) (sym (one_refused why demand reply.kind reply.payload.items (pair_of request reply.kind reply.payload.items) h.3))
                ∙ ap (λ z. more_pairs (refused_pairs why (pair_of request z reply.payload.items)) (pairs_of g before)) (sym h.1) ∙ ap (λ z. more_pairs (refused_pairs why (pair_of request kept z)) (pairs_of g before)) (sym h.2);
            faults_so = got.faults_so;
            lends_so = got.lends_so;
            counts = got.counts;
            misfit = λ honest x means. misfit_given x reply.kind reply.payload.items demand (server_of g before) (server_of g after) w.1 ((got.served x means).fitting honest);
          },
        )
    unread stops.WriteFault h = absurd h
    unread stops.Memory h = tt
