-- The text of certificates, line by line.
use Rattle.std.specs.Prelude.{◌≡◌, ℕ, zero, suc, ◌+◌, ◌*◌, ◌<◌, ◌≤◌, ◌^◌, ℤ, pos, negsuc, unsigned_abs, List, [], ◌∷◌, ◌++◌, length, map, take, codes, All}
use Rattle.std.specs.Fmt.{decimal, signed_decimal}
use Rattle.jesc_cert.specs.declared.cert.Cert.{Cert}
use Rattle.jesc_cert.specs.declared.cert.CertLine.{CertLine}
use Rattle.jesc_cert.specs.declared.cert.CertKind.{CertKind}
use Rattle.jesc_cert.specs.declared.cert.CertKind.TheVariants.{T, G, R, Q, S, C, M}
use Rattle.jesc_cert.specs.declared.cert.Certs.{Certs}

-- ---- lines, without their line feeds

abbrev pub letter : CertKind → List ℕ
letter T = codes "t"
letter G = codes "g"
letter R = codes "r"
letter Q = codes "q"
letter S = codes "s"
letter C = codes "c"
letter M = codes "m"

-- each number behind a space
abbrev pub numbers_text : List ℤ → List ℕ
numbers_text [] = []
numbers_text (n ∷ ns) = codes " " ++ (signed_decimal n ++ numbers_text ns)

abbrev pub line_text : CertLine → List ℕ
line_text l = letter l.kind ++ numbers_text l.numbers

-- the line that begins a certificate
abbrev pub cond_text : List ℕ → ℕ → List ℕ
cond_text duty number = codes "cond " ++ (duty ++ (codes " " ++ decimal number))

abbrev pub block_lines : List ℕ × ℕ × Cert → List (List ℕ)
block_lines b = cond_text b.0 b.1 ∷ map line_text b.2.lines

abbrev pub blocks_lines : List (List ℕ × ℕ × Cert) → List (List ℕ)
blocks_lines [] = []
blocks_lines (b ∷ bs) = block_lines b ++ blocks_lines bs

-- the lines of a file of certificates
abbrev pub file_lines : Certs → List (List ℕ)
file_lines c = codes "jescert 1" ∷ (codes "rounds " ++ decimal c.rounds) ∷ (blocks_lines c.list ++ codes "end" ∷ [])

-- each line, ended by a line feed
abbrev pub ended : List (List ℕ) → List ℕ
ended [] = []
ended (line ∷ lines) = line ++ 10 ∷ ended lines

-- ---- which certificates have a text

-- the list begins with a count, and behind it stand so many times as many numbers, and some more
abbrev pub Counts : ℕ → ℕ → List ℤ → Type 0
Counts times more [] = ⊥
Counts times more (pos n ∷ rest) = length rest ≡ times * n + more
Counts times more (negsuc n ∷ rest) = ⊥

abbrev pub CountsAt : ℕ → ℕ → ℕ → List ℤ → Type 0
CountsAt zero times more numbers = Counts times more numbers
CountsAt (suc k) times more [] = ⊥
CountsAt (suc k) times more (n ∷ numbers) = CountsAt k times more numbers

-- as many numbers as the line's form asks
abbrev pub HasForm : CertKind → List ℤ → Type 0
HasForm T numbers = CountsAt 1 2 0 numbers
HasForm G numbers = length numbers ≡ 2
HasForm R numbers = CountsAt 0 1 1 numbers
HasForm Q numbers = CountsAt 6 2 0 numbers
HasForm S numbers = length numbers ≡ 1
HasForm C numbers = length numbers ≡ 1
HasForm M numbers = length numbers ≡ 1

-- the line has a text
pub record IsLine (l : CertLine) : Type 0 where
  pub form : HasForm l.kind l.numbers
  pub within : All (λ n. unsigned_abs n ≤ 2 ^ 126) l.numbers

-- the byte is neither a space nor a line feed
pub record IsInName (byte : ℕ) : Type 0 where
  pub no_space : byte ≡ 32 → ⊥
  pub no_feed : byte ≡ 10 → ⊥

-- the block has a text
pub record IsBlock (b : List ℕ × ℕ × Cert) : Type 0 where
  pub some : 0 < length b.0
  pub name : All IsInName b.0
  pub number : b.1 < 2 ^ 32
  pub lines : All IsLine b.2.lines

-- the certificates have a text
pub record HaveText (c : Certs) : Type 0 where
  pub rounds : c.rounds ≤ 5
  pub blocks : All IsBlock c.list

-- the bytes are the text of the certificates
pub record IsText (bytes : List ℕ) (c : Certs) : Type 0 where
  pub have : HaveText c
  pub is : bytes ≡ ended (file_lines c)

-- ---- which line can't be continued

-- the lines are the first of some file of certificates
abbrev pub Begin : List (List ℕ) → Type 0
Begin lines = (c : Certs) × HaveText c × (lines ≡ take (length lines) (file_lines c))

-- the first lines begin a file, and the line behind them, from 1, is the first one that is no further line of one: it is
-- another line, it has no end, or it is missing
pub record IsBad (bytes : List ℕ) (line : ℕ) : Type 0 where
  pub before : List (List ℕ)
  pub behind : List ℕ
  pub count : line ≡ length before + 1
  pub are : bytes ≡ ended before ++ behind
  pub begin : Begin before
  pub stops : (next : List ℕ) (rest : List ℕ) → behind ≡ next ++ 10 ∷ rest → All (λ byte. byte ≡ 10 → ⊥) next → Begin (before ++ next ∷ []) → ⊥
  pub is_none : (c : Certs) → IsText bytes c → ⊥
