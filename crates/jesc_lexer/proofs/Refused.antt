-- The error of a text that is none.
use Rattle.std.proofs.Common.{ℕ, List, Err, inl}
use Rattle.jesc_lexer.specs.declared.piece.Refusal.{Refusal}
use Rattle.jesc_lexer.specs.declared.file.LexError.{LexError}
use Rattle.jesc_lexer.specs.declared.file.LexError.TheVariants.{Refused, OutOfMemory}
use Rattle.jesc_lexer.specs.Lexed.{IsNoText}
use Rattle.jesc_lexer.specs.Inner.{IsError, Gives}

pub no_text_gives : (file : ℕ) (bytes : List ℕ) (refusal : Refusal) (error : LexError)
    → IsNoText bytes refusal → IsError file bytes refusal error → Gives file bytes (Err error)
no_text_gives file bytes refusal (Refused number place word) is told = (refusal, inl is, told)
no_text_gives file bytes refusal OutOfMemory is told = tt
