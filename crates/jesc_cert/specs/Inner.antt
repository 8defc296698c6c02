-- Words of the reader's inner functions.
use Rattle.std.specs.Prelude.{◌≡◌, ℕ, ◌+◌, ◌<◌, ◌≤◌, ◌^◌, ℤ, unsigned_abs, List, [], ◌∷◌, ◌++◌, length, take, drop, All, Option, None, Some, Result, Ok, Err, map}
use Rattle.std.specs.Fmt.{decimal, signed_decimal}
use Rattle.jesc_cert.specs.declared.cert.Cert.{Cert}
use Rattle.jesc_cert.specs.declared.cert.CertLine.{CertLine}
use Rattle.jesc_cert.specs.declared.cert.Certs.{Certs}
use Rattle.jesc_cert.specs.declared.cert.CertError.{CertError}
use Rattle.jesc_cert.specs.declared.cert.CertError.TheVariants.{Bad, OutOfMemory}
use Rattle.jesc_cert.specs.Texts.{IsLine, IsInName, IsBlock, IsText, Begin, line_text, numbers_text, cond_text, block_lines, blocks_lines, ended}

-- what is said of the line, where the answer is that it is bad
abbrev pub OnBad : {A : Type 0} → (ℕ → Type 0) → Result A CertError → Type 0
OnBad P (Ok a) = Unit
OnBad P (Err (Bad line)) = P line
OnBad P (Err OutOfMemory) = Unit

-- ---- bytes up to another

-- the byte is not among these
abbrev pub Without : ℕ → List ℕ → Type 0
Without byte [] = Unit
Without byte (b ∷ bs) = (b ≡ byte → ⊥) × Without byte bs

-- the bytes begin with this one, or there are none
abbrev pub Breaks : ℕ → List ℕ → Type 0
Breaks byte [] = Unit
Breaks byte (b ∷ bs) = b ≡ byte

-- so many bytes stand before the first such byte, or in all
pub record IsFirst (byte : ℕ) (bytes : List ℕ) (count : ℕ) : Type 0 where
  pub within : count ≤ length bytes
  pub apart : Without byte (take count bytes)
  pub breaks : Breaks byte (drop count bytes)

-- the line at the front has so many bytes before its line feed
pub record IsFeed (bytes : List ℕ) (count : ℕ) : Type 0 where
  pub within : count < length bytes
  pub apart : Without 10 (take count bytes)
  pub are : bytes ≡ take count bytes ++ 10 ∷ drop (count + 1) bytes

-- ---- numbers

abbrev pub IsWithin : ℤ → Type 0
IsWithin n = unsigned_abs n ≤ 2 ^ 126

-- the first number of the bytes, behind a space, and how many bytes it takes with the space
pub record IsNext (bytes : List ℕ) (n : ℤ) (count : ℕ) : Type 0 where
  pub within : IsWithin n
  pub some : 0 < count
  pub room : count ≤ length bytes
  pub are : take count bytes ≡ 32 ∷ signed_decimal n
  pub breaks : Breaks 32 (drop count bytes)

-- no number stands first
abbrev pub HasNoNext : List ℕ → Type 0
HasNoNext bytes = (n : ℤ) (more : List ℕ) → IsWithin n → Breaks 32 more → bytes ≡ 32 ∷ (signed_decimal n ++ more) → ⊥

-- the numbers that the bytes are the text of, or that they are of none
abbrev pub AreNumbers : List ℕ → Option (List ℤ) → Type 0
AreNumbers bytes None = (ns : List ℤ) → All IsWithin ns → bytes ≡ numbers_text ns → ⊥
AreNumbers bytes (Some ns) = All IsWithin ns × (bytes ≡ numbers_text ns)

-- ---- lines

-- the line that the bytes are the text of, or that they are of none
abbrev pub IsReadLine : List ℕ → Option CertLine → Type 0
IsReadLine bytes None = (l : CertLine) → IsLine l → bytes ≡ line_text l → ⊥
IsReadLine bytes (Some l) = IsLine l × (bytes ≡ line_text l)

-- the name and the number of a line that begins a certificate
pub record IsCond (duty : List ℕ) (number : ℕ) : Type 0 where
  pub some : 0 < length duty
  pub name : All IsInName duty
  pub small : number < 2 ^ 32

abbrev pub IsReadCond : List ℕ → Option (List ℕ × ℕ) → Type 0
IsReadCond bytes None = (duty : List ℕ) (number : ℕ) → IsCond duty number → bytes ≡ cond_text duty number → ⊥
IsReadCond bytes (Some p) = IsCond p.0 p.1 × (bytes ≡ cond_text p.0 p.1)

-- the first line of these bytes, if it has an end, is not of this kind
abbrev pub StopsAt : (List ℕ → Type 0) → List ℕ → Type 0
StopsAt P bytes = (next rest : List ℕ) → bytes ≡ next ++ 10 ∷ rest → Without 10 next → P next → ⊥

-- the text is a certificate's line
abbrev pub IsLineText : List ℕ → Type 0
IsLineText text = (l : CertLine) × IsLine l × (text ≡ line_text l)

-- the text begins a certificate
abbrev pub IsCondText : List ℕ → Type 0
IsCondText text = (duty : List ℕ) × (number : ℕ) × IsCond duty number × (text ≡ cond_text duty number)

-- ---- certificates

-- the lines stand first, in so many bytes, and no further line behind them
pub record AreLines (bytes : List ℕ) (lines : List CertLine) (count : ℕ) : Type 0 where
  pub room : count ≤ length bytes
  pub all : All IsLine lines
  pub are : take count bytes ≡ ended (map line_text lines)
  pub stops : StopsAt IsLineText (drop count bytes)

-- the block stands first, in so many bytes, and no further line behind it
pub record IsNextBlock (bytes : List ℕ) (block : List ℕ × ℕ × Cert) (count : ℕ) : Type 0 where
  pub some : 0 < count
  pub room : count ≤ length bytes
  pub is : IsBlock block
  pub are : take count bytes ≡ ended (block_lines block)
  pub stops : StopsAt IsLineText (drop count bytes)

abbrev pub IsReadBlock : List ℕ → Option ((List ℕ × ℕ × Cert) × ℕ) → Type 0
IsReadBlock bytes None = StopsAt IsCondText bytes
IsReadBlock bytes (Some p) = IsNextBlock bytes p.0 p.1

-- behind the blocks stands none of their lines
abbrev pub StopsBehind : List (List ℕ × ℕ × Cert) → List ℕ → Type 0
StopsBehind [] bytes = Unit
StopsBehind (b ∷ bs) bytes = StopsAt IsLineText bytes

-- the blocks stand first, in so many bytes, and no further block or line behind them
pub record AreBlocks (bytes : List ℕ) (blocks : List (List ℕ × ℕ × Cert)) (count : ℕ) : Type 0 where
  pub room : count ≤ length bytes
  pub all : All IsBlock blocks
  pub are : take count bytes ≡ ended (blocks_lines blocks)
  pub lines : StopsBehind blocks (drop count bytes)
  pub conds : StopsAt IsCondText (drop count bytes)

-- ---- files

-- the lines in front of a place begin a file, and what stands there does not continue it
pub record IsStuck (bytes : List ℕ) (at : ℕ) : Type 0 where
  pub before : List (List ℕ)
  pub room : at ≤ length bytes
  pub apart : All (Without 10) before
  pub are : take at bytes ≡ ended before
  pub begin : Begin before
  pub stops : StopsAt (λ next. Begin (before ++ next ∷ [])) (drop at bytes)
  pub is_none : (c : Certs) → IsText bytes c → ⊥

-- the certificates, or where the bytes go wrong
abbrev pub IsReadFile : List ℕ → Result Certs ℕ → Type 0
IsReadFile bytes (Ok c) = IsText bytes c
IsReadFile bytes (Err at) = IsStuck bytes at

-- a number at most so large
abbrev pub IsReadNumber : ℕ → List ℕ → List ℕ → Option ℕ → Type 0
IsReadNumber most front bytes None = (n : ℕ) → n ≤ most → bytes ≡ front ++ decimal n → ⊥
IsReadNumber most front bytes (Some n) = (n ≤ most) × (bytes ≡ front ++ decimal n)
