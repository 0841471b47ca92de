-- Each batch that an accepted program reaches can be exchanged.
use Rattle.std.proofs.Common.{◌≡◌, refl, sym, ap, ◌∙◌, subst, List, [], ◌∷◌, Bool as Truth, true, false, cond, inl, inr, nat_lt, length, Some, Result, Ok, Err}
use Rattle.std.specs.List.{Contains}
use Rattle.rb_trees.specs.CodeSize.{code_size_of}
use Rattle.rb_trees.specs.declared.refusals.Refusal.{Refusal}
use Rattle.rb_trees.specs.declared.refusals.Refusal.TheVariants.{TooManyInputs, ScriptTooLarge}
use Rattle.rb_trees.specs.mirror.Declarations.{Program}
use Rattle.rb_meaning_bytes.specs.formats.Items.{most_items}
use Rattle.rb_meaning_types.specs.Declared.{of_program}
use Rattle.rb_meaning_code.specs.Dialogue.{AskBatch}
use Rattle.rb_meaning_flow.specs.Facts.{facts_of}
use Rattle.rb_meaning_flow.specs.Outermost.{Outermost, program_batches}
use Rattle.rb_meaning.specs.Unsplit.{batch_at}
use Rattle.rb_meaning.specs.Links.{IsTyped}
use Rattle.rb_meaning.specs.Meaning.{around_of, in_main}
use Rattle.rb_meaning_split.specs.Client.{sent_for}
use Rattle.rb_meaning_split.specs.Division.{Division, inputs_of, division, most_inputs, longest_code, divided, divided_before, divided_all}
use Rattle.rb_flow.proofs.Members.{contained_cases, none_contained}
use Rattle.rb_law_types.specs.Asked.{Own, IsAskedBatch}
use Rattle.rb_law_unsplit.specs.Batches.{program_sites}
use Rattle.rb_law_unsplit.proofs.Found.{batch_found}
use Rattle.rb_law_unsplit.proofs.Programs.{program_typed, batches_in}
use Rattle.rb_law_division.specs.Fitting.{NodesFit}
use Rattle.rb_law_division.specs.Sendable.{CanBeSent, DividedCanBeSent}
use Rattle.rb_law_client.specs.Below.{LawsBelow}
use Rattle.rb_law_client.specs.Reached.{main_run, ReachedBatchesCanBeExchanged}
use Rattle.rb_law_client.proofs.Divided.{dividing_keeps}
use Rattle.rb_law_client.proofs.Mains.{Ends, main_fits, main_kept, reaches}
use Rattle.rb_law_client.proofs.Given.{inputs_given, asked_inputs}
use Rattle.rb_law_client.proofs.Taken.{inputs_have_items}

-- ---- what is divided

divided_is : (p : Program) (b : Outermost) (d : Division) → divided p b ≡ Ok d → d ≡ division p b
divided_is p b d h = by (nat_lt most_inputs (length (inputs_of p b))) (nat_lt longest_code (code_size_of (division p b).script)) h
  where
    by : (t u : Truth) → cond t (Err (TooManyInputs b.at (length (inputs_of p b)))) (cond u (Err (ScriptTooLarge (division p b).at (code_size_of (division p b).script))) (Ok (division p b))) ≡ Ok d → d ≡ division p b
    by true u g = absurd (cc (g))
    by false true g = absurd (cc (g))
    by false false g = cc (g)

both_divided : (r : Result Division Refusal) (rs : Result (List Division) Refusal) (ds : List Division) → divided_before r rs ≡ Ok ds → ((d : Division) × (r ≡ Ok d)) × ((es : List Division) × (rs ≡ Ok es))
both_divided (Err refusal) rs ds h = absurd (cc (h))
both_divided (Ok d) (Err refusal) ds h = absurd (cc (h))
both_divided (Ok d) (Ok es) ds h = ((d, refl), (es, refl))

each_divided : (p : Program) (bs : List Outermost) (ds : List Division) → divided_all p bs ≡ Ok ds → (b : Outermost) → Contains bs b → divided p b ≡ Ok (division p b)
each_divided p [] ds h b c = absurd (none_contained b c)
each_divided p (q ∷ bs) ds h b c =
    let both = both_divided (divided p q) (divided_all p bs) ds h in
    elim (contained_cases q bs b c) [
      | inl e ↦ subst (λ z. divided p z ≡ Ok (division p z)) e (both.0.1 ∙ ap Ok (divided_is p q both.0.0 both.0.1))
      | inr more ↦ each_divided p bs both.1.0 both.1.1 b more
    ]

pub exchanged : LawsBelow → NodesFit → DividedCanBeSent → ReachedBatchesCanBeExchanged
exchanged below nodes sendable p lawful checked none places ds divides service table served others kept fuel at l go a passes s fits_there =
    let side = Own (program_sites p) in
    let t = program_typed p checked in
    let fits = main_fits below p lawful checked none service table served in
    let reached = reaches (of_program p) side _ (in_main p service) fits (Ends below p lawful checked none service table served) (main_run p fuel) (AskBatch at l go) (around_of table others) a passes
    (main_kept below p lawful checked none service table served fuel) (record { table = served.fits; others = kept }) in
    let site = reached.0.0 in
    let asked : IsAskedBatch (of_program p) side at l site = reached.0.1 in
    let served_now : IsTyped service s.server.table = record { lawful = served.lawful; typed = served.typed; fits = fits_there } in
    let known = batches_in p lawful t (below.notes p lawful) site asked.may in
    let b = known.begun in
    let found : batch_at p at ≡ Some b = ap (batch_at p) (sym (known.at ∙ asked.here)) ∙ batch_found p lawful b known.among in
    let has = asked_inputs below p lawful checked at l site asked b found in
    let sent : CanBeSent (division p b).script = sendable p lawful checked none places b known.among (division p b) (each_divided p (program_batches (facts_of p) p) ds divides b known.among) in
    record {
      batch = b;
      stands = found;
      limit = ap (nat_lt most_items) (inputs_have_items below p lawful checked at l site asked b found);
      inputs = inputs_given p b l has;
      request = λ few. sent.request (sent_for (division p b) l).values (inputs_given p b l has few);
      fits_so = nodes p lawful checked none service s.server.table served_now at l site asked b found;
      keeps = dividing_keeps below p lawful checked none service s served_now at l site asked b found;
    }
