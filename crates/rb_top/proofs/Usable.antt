-- Where the files tell an accepted program, or a service, it is the one that is found.
use Rattle.std.proofs.Common.{◌≡◌, ℕ, true, List, [], Option, None, Some, Ok, Err, ap, sym, ◌∙◌, refl, subst, arith}
use Rattle.std.specs.Result.{is_ok}
use Rattle.rb_trees.specs.declared.services.Object.{Object}
use Rattle.rb_trees.specs.mirror.Declarations.{Program}
use Rattle.rb_trees.specs.mirror.Services.{Service}
use Rattle.rb_meaning.specs.ServiceSources.{ReadsAsService, unread, of_text}
use Rattle.rb_meaning_bytes.specs.grammar.Sources.{ReadSource}
use Rattle.rb_meaning_split.specs.Division.{divisions}
use Rattle.rb_meaning_types.specs.Programs.{check_program}
use Rattle.rb_meaning_types.specs.Stores.{Stored}
use Rattle.rb_meaning_types.specs.Violations.{Checked, Violation}
use Rattle.rb_base.specs.Devices.{Device}
use Rattle.rb_base.specs.Directories.{Directory, Finds, FailsNext}
use Rattle.rb_flow.specs.Program.{HasNoRefusal}
use Rattle.rb_parse.specs.Outcomes.{AtMostOne}
use Rattle.rb_top.specs.Completeness.{IsTold, ToldAccepted, ToldService}
use Rattle.rb_top.specs.Loads.{FindsTooLong, HoldsProgram}
use Rattle.rb_top.specs.Runs.{Served}
use Rattle.rb_top.specs.Texts.{WithinLength, TooLong, IsService}
use Rattle.rb_top.specs.Unusable.{NoProgram, NoService, NoText, text_fault, text_too_long, program_fault, program_too_long, not_read, untyped, not_admitted, not_divided, service_fault, service_too_long, service_refused}
use Rattle.rb_top.specs.declared.status.Status.{Status}

abbrev found_or_none : Option (List ℕ) → List ℕ
found_or_none None = []
found_or_none (Some text) = text

-- what is told doesn't fail
pub never_fails : (told : Option Directory) (name text : List ℕ) → IsTold told name text → FailsNext told name → ⊥
never_fails None name text r f = r
never_fails (Some directory) name text r f =
    let e = sym f ∙ r in
    absurd (cc)

-- what is told is what is found
pub found_once : (told : Option Directory) (name text found : List ℕ) → IsTold told name text → Finds told name found → found ≡ text
found_once None name text found r f = absurd r
found_once (Some directory) name text found r f = ap found_or_none (sym f ∙ r)

too_long_none : (text : List ℕ) → TooLong text → WithinLength text → ⊥
too_long_none text l f = omega arith

-- a text within the limit that is told is no longer one
pub never_too_long : (told : Option Directory) (name text : List ℕ) → IsTold told name text → WithinLength text → FindsTooLong told name → ⊥
never_too_long told name text r w l = too_long_none text (subst TooLong (found_once told name text l.0 r l.1) l.2) w

-- Where a text is told, no cause holds that there is none.
pub text_is_usable : (files : Device Directory) (name text : List ℕ) → IsTold files.told name text → WithinLength text → (status : Status) (shown : List ℕ) (left : Device Directory) → NoText files name status shown left → ⊥
text_is_usable files name text t w status shown left (text_fault f) = never_fails files.told name text t f
text_is_usable files name text t w status shown left (text_too_long l) = never_too_long files.told name text t w l

-- no source has two outcomes
abbrev pub OneSource : Type 0
OneSource = (source : List ℕ) → AtMostOne (ReadSource source)

-- no source is two services, or one and none
abbrev pub OneService : Type 0
OneService = (source : List ℕ) → AtMostOne (ReadsAsService source)

-- a typed program has no violation
never_untyped : (checked : Checked (Unit {0})) (violation : Violation) → is_ok checked ≡ true → checked ≡ Err violation → ⊥
never_untyped checked violation t f =
    let e = sym (ap is_ok f) ∙ t in
    absurd (cc)

-- a text that is told is one program
one_reading : OneSource → (text : List ℕ) (program other : Program) → ReadSource text (Ok program) → ReadSource text (Ok other) → other ≡ program
one_reading one text program other i j =
    let e = one text (Ok other) (Ok program) j i in
    cc

-- Where an accepted program is told, no cause holds that there is none.
pub accepted_is_usable : OneSource → (files : Device Directory) (p text : List ℕ) (program : Program) → ToldAccepted files.told p text program → (status : Status) (shown : List ℕ) (left : Device Directory) → NoProgram files p status shown left → ⊥
accepted_is_usable one files p text program t status shown left (program_fault f) = never_fails files.told p text t.finds f
accepted_is_usable one files p text program t status shown left (program_too_long l) = never_too_long files.told p text t.finds t.is.read.1.short l
accepted_is_usable one files p text program t status shown left (not_read found error h r) =
    let e = one text (Ok program) (Err error) t.is.read (subst (λ x. ReadSource x (Err error)) (found_once files.told p text found t.finds h.0) r) in
    absurd (cc)
accepted_is_usable one files p text program t status shown left (untyped found other error f x) =
    let same = found_once files.told p text found t.finds f in
    let e = one_reading one text program other t.is.read (subst (λ y. ReadSource y (Ok other)) same x.read) in
    never_untyped (check_program program) x.violation t.is.typed (subst (λ q. check_program q ≡ Err x.violation) e x.fails)
accepted_is_usable one files p text program t status shown left (not_admitted found other refusal f x) =
    let same = found_once files.told p text found t.finds f in
    let e = one_reading one text program other t.is.read (subst (λ y. ReadSource y (Ok other)) same x.read) in
    subst HasNoRefusal (sym e) t.is.admitted refusal x.refused.0
accepted_is_usable one files p text program t status shown left (not_divided found other refusal f x) =
    let same = found_once files.told p text found t.finds f in
    let e = one_reading one text program other t.is.read (subst (λ y. ReadSource y (Ok other)) same x.read) in
    let both = sym t.is.divided.1 ∙ subst (λ q. divisions q ≡ Err refusal) e x.refused in
    absurd (cc both)

-- The program that is held is the one that is told, and so is its text.
pub held_is_told : OneSource → (told : Option Directory) (p text found : List ℕ) (program other : Program) → ToldAccepted told p text program → HoldsProgram told p found other → (found ≡ text) × (other ≡ program)
held_is_told one told p text found program other t h =
    let same = found_once told p text found t.finds h.finds in
    (same, one_reading one text program other t.is.read (subst (λ y. ReadSource y (Ok other)) same h.is.read))

text_short : (text : List ℕ) (outcome : Stored (Service × List Object)) → ReadsAsService text outcome → is_ok outcome ≡ true → WithinLength text
text_short text outcome (unread r) h = absurd (cc h)
text_short text outcome (of_text r) h = r.1.short

-- Where a service is told, no cause holds that there is none.
pub service_is_usable : OneService → (files : Device Directory) (s text : List ℕ) (served : Served) → ToldService files.told s text served → (status : Status) (shown : List ℕ) (left : Device Directory) → NoService files s status shown left → ⊥
service_is_usable one files s text served t status shown left (service_fault f) = never_fails files.told s text t.finds f
service_is_usable one files s text served t status shown left (service_too_long l) = never_too_long files.told s text t.finds (text_short text (Ok served) t.is refl) l
service_is_usable one files s text served t status shown left (service_refused found error h n) =
    let e = one text (Ok served) (Err n.refusal) t.is (subst (λ x. ReadsAsService x (Err n.refusal)) (found_once files.told s text found t.finds h.0) n.is) in
    absurd (cc)

-- The service that is found is the one that is told.
pub found_is_told : OneService → (told : Option Directory) (s text found : List ℕ) (served other : Served) → ToldService told s text served → Finds told s found → IsService found other → other ≡ served
found_is_told one told s text found served other t f i =
    let e = one text (Ok other) (Ok served) (subst (λ x. IsService x other) (found_once told s text found t.finds f) i) t.is in
    cc
