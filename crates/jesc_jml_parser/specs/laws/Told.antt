-- The error that is told of a fault.
use Rattle.std.specs.Prelude.{◌≡◌, ℕ, ◌-◌, Bool, true, false, Option, List, length, slice_get}
use Rattle.jesc_text.specs.declared.place.Place.{Place}
use Rattle.jesc_lexer.specs.declared.token.Token.{Token}
use Rattle.jesc_lexer.specs.declared.token.Tokens.{Tokens}
use Rattle.jesc_jml_grammar.specs.declared.fault.Fault.TheVariants as faults
use Rattle.jesc_jml_grammar.specs.declared.fault.ParseError.{ParseError}
use Rattle.jesc_jml_grammar.specs.declared.fault.ParseError.TheVariants as errors
use Rattle.jesc_jml_parser.specs.declared.error.SyntaxError.{SyntaxError}
use Rattle.jesc_jml_parser.specs.declared.error.SyntaxError.TheVariants.{Token as UnexpectedToken, LeftOut, Deep, OutOfMemory}
use Rattle.jesc_jml_parser.specs.Refusals.{place_of_next, text_of_next, is_left_out_next}

-- the error has this place and text, unless memory ran out
abbrev pub IsShown : Bool → Place → List ℕ → SyntaxError → Type 0
IsShown left_out place text (UnexpectedToken p t) = (p ≡ place) × (t ≡ text) × (left_out ≡ false)
IsShown left_out place text (LeftOut p t) = (p ≡ place) × (t ≡ text) × (left_out ≡ true)
IsShown left_out place text (Deep p) = ⊥
IsShown left_out place text OutOfMemory = Unit {0}

-- the error tells this token, unless memory ran out
abbrev pub Tells : Tokens → Option Token → SyntaxError → Type 0
Tells tokens next = IsShown (is_left_out_next tokens next) (place_of_next tokens next) (text_of_next tokens next)

-- the error of a fault
abbrev pub IsErrorOf : Tokens → ParseError → SyntaxError → Type 0
IsErrorOf tokens errors.Memory error = error ≡ OutOfMemory
IsErrorOf tokens (errors.Fault (faults.Unexpected n)) error = Tells tokens (slice_get tokens.list (length tokens.list - n)) error
IsErrorOf tokens (errors.Fault (faults.Deep n)) error = error ≡ Deep (place_of_next tokens (slice_get tokens.list (length tokens.list - n)))
IsErrorOf tokens (errors.Fault faults.Long) error = error ≡ OutOfMemory
