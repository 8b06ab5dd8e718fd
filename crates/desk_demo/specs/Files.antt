-- What a demonstration file tells of a design: a trial, a step and a signal, in one line that a line
-- feed ends; or why it tells none.
-- Worked examples: crates/tests_rows/stdin.
use Rattle.std.specs.Prelude.{◌≡◌, ◌≢◌, ◌⊎◌, ◌==◌, ℕ, false, List, [], ◌∷◌, ◌++◌, Option, None, Some, position}
use Rattle.std.specs.List.{list_any}
use Rattle.std.specs.Str.{bytes_eq}
use Rattle.rtl_flat.specs.declared.signal.Signal.{Signal}
use Rattle.demo_trials.specs.Demos.{IsDemo, demo_text}
use Rattle.demo_told.specs.declared.demo.Demo.{Demo}
use Rattle.desk_demo.specs.declared.file.Malformed.{Malformed}
use Rattle.desk_demo.specs.declared.file.Malformed.TheVariants.{First, More}

-- the first signal with a path
abbrev pub signal_of : List Signal → List ℕ → Option ℕ
signal_of signals path = position (λ signal. bytes_eq signal.path path) signals

-- ---- a file that tells a demonstration

-- it is the line of the demonstration, whose signal is the first with its path
pub record IsTold (signals : List Signal) (text : List ℕ) (demo : Demo) : Type 0 where
  pub path : List ℕ
  pub is_demo : IsDemo demo.trial demo.step path
  pub is_line : text ≡ demo_text demo.trial demo.step path
  pub is_signal : signal_of signals path ≡ Some demo.signal.0

-- ---- one that tells none

-- a line of a demonstration is at its begin
pub record Begins (text rest : List ℕ) : Type 0 where
  pub trial : ℕ
  pub step : ℕ
  pub path : List ℕ
  pub is_demo : IsDemo trial step path
  pub parts : text ≡ demo_text trial step path ++ rest

-- a line of a demonstration is at its begin whose path is that of no signal
pub record IsUnnamed (signals : List Signal) (text : List ℕ) : Type 0 where
  pub rest : List ℕ
  pub begins : Begins text rest
  pub no_signal : signal_of signals begins.path ≡ None

-- its first line is none: not the line of a demonstration, or one that names no signal
pub data IsUnread (signals : List Signal) (text : List ℕ) : Type 0 where
  NoLine : ((rest : List ℕ) → Begins text rest → ⊥) → IsUnread signals text
  NoSignal : IsUnnamed signals text → IsUnread signals text

-- the line of this demonstration is at its begin, and something stands behind it
pub record Leads (signals : List Signal) (text : List ℕ) (demo : Demo) : Type 0 where
  pub path : List ℕ
  pub rest : List ℕ
  pub is_demo : IsDemo demo.trial demo.step path
  pub parts : text ≡ demo_text demo.trial demo.step path ++ rest
  pub is_signal : signal_of signals path ≡ Some demo.signal.0
  pub some : rest ≢ []

abbrev pub IsMalformed : List Signal → List ℕ → Malformed → Type 0
IsMalformed signals text First = IsUnread signals text
IsMalformed signals text (More demo) = Leads signals text demo

-- ---- lines

-- bytes of which none is a line feed, and a line feed
pub record IsLine (line : List ℕ) : Type 0 where
  pub before : List ℕ
  pub free : list_any (λ byte. byte == 10) before ≡ false
  pub is : line ≡ before ++ 10 ∷ []

-- a first line with the line feed that ends it; or all, where there is no line feed
abbrev pub IsFirstLine : List ℕ → List ℕ → List ℕ → Type 0
IsFirstLine text line rest =
    IsLine line ⊎ ((list_any (λ byte. byte == 10) text ≡ false) × (rest ≡ []))
