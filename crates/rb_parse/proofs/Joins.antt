-- Reading a source is reading its tokens, and what is read is lawful.
use Rattle.std.proofs.lemmas.List.{length-map}
use Rattle.std.proofs.Common.{ℕ, ◌≤◌, List, length, subst, Result, Ok, Err, IfOk}
use Rattle.rb_trees.specs.declared.tokens.Token.{Token}
use Rattle.rb_trees.specs.declared.reading.LexError.{LexError}
use Rattle.rb_trees.specs.declared.reading.LexError.TheVariants as faults
use Rattle.rb_trees.specs.declared.declarations.Program as code
use Rattle.rb_trees.specs.declared.services.ServiceText as service
use Rattle.rb_trees.specs.declared.reading.ReadError.{ReadError}
use Rattle.rb_trees.specs.mirror.Declarations.{mirror_program}
use Rattle.rb_trees.specs.mirror.Services.{mirror_object, mirror_service_text}
use Rattle.rb_trees.specs.Limits.{most_objects}
use Rattle.rb_trees.specs.Outcome.{Tells, Refused}
use Rattle.rb_trees.specs.Reading.{lex_refusal, read_refusal}
use Rattle.rb_trees.proofs.OutcomeWords.{tells_on}
use Rattle.rb_meaning_bytes.specs.tokens.Texts.{IsTokens, Lexed}
use Rattle.rb_meaning_bytes.specs.grammar.Symbols.{Nonterminal, TreeOf}
use Rattle.rb_meaning_bytes.specs.grammar.Refusals.{ReadAs, Read, ReadServiceTokens}
use Rattle.rb_meaning_bytes.specs.grammar.Sources.{ReadSourceAs}
use Rattle.rb_meaning_types.specs.Lawful.{IsLawful, IsLawfulServiceText}
use Rattle.rb_parse.specs.Told.{refusal_of}
use Rattle.rb_parse.proofs.Outcomes.{of_tokens}
use Rattle.rb_parse.proofs.lawful.Whole.{lawful}
use Rattle.rb_parse.proofs.lawful.Services.{lawful_service}
use Rattle.rb_parse.proofs.lawful.Objects.{few_objects}

-- a fault is the source's refusal
pub fault_told : (start : Nonterminal) (source : List ℕ) (fault : LexError) → Tells (λ (ts : List Token). ts) lex_refusal (Err fault) (Lexed source) → Refused (ReadSourceAs start source) (read_refusal (refusal_of fault))
fault_told start source (faults.BadByte at) t = t
fault_told start source (faults.OpenText at) t = t
fault_told start source (faults.NumberTooLarge at) t = t
fault_told start source (faults.NotUtf8 at) t = t
fault_told start source (faults.TooLong at) t = t
fault_told start source faults.Memory t = tt

-- what its tokens are read as, the source is read as
pub tokens_told : {X : Type 0} (start : Nonterminal) (view : X → TreeOf start) (source : List ℕ) (tokens : List Token) (answer : Result X ReadError) → IsTokens source tokens → Tells view read_refusal answer (ReadAs start source tokens) → Tells view read_refusal answer (ReadSourceAs start source)
tokens_told start view source tokens answer i told = tells_on view read_refusal (ReadAs start source tokens) (ReadSourceAs start source) (λ outcome r. of_tokens start source tokens outcome i r) answer told

-- what is answered is lawful
pub lawful_answer : (source : List ℕ) (tokens : List Token) (answer : Result code.Program ReadError) → IsTokens source tokens → Tells mirror_program read_refusal answer (Read source tokens) → IfOk answer (λ program. IsLawful (mirror_program program))
lawful_answer source tokens (Ok program) i told = lawful source tokens (mirror_program program) i told.0 told.1
lawful_answer source tokens (Err error) i told = tt

pub lawful_service_answer : (source : List ℕ) (tokens : List Token) (answer : Result service.ServiceText ReadError) → IsTokens source tokens → Tells mirror_service_text read_refusal answer (ReadServiceTokens source tokens) → IfOk answer (λ service. IsLawfulServiceText (mirror_service_text service))
lawful_service_answer source tokens (Ok service) i told = lawful_service source tokens (mirror_service_text service) i told.0 told.1
lawful_service_answer source tokens (Err error) i told = tt

-- what is answered has no more objects than a heap
pub room_answer : (source : List ℕ) (tokens : List Token) (answer : Result service.ServiceText ReadError) → IsTokens source tokens → Tells mirror_service_text read_refusal answer (ReadServiceTokens source tokens) → IfOk answer (λ service. length service.objects ≤ most_objects)
room_answer source tokens (Ok service) i told = subst (λ n. n ≤ most_objects) (length-map service.objects mirror_object) (few_objects source tokens (mirror_service_text service) i told.0)
room_answer source tokens (Err error) i told = tt
