-- Paths with widths, and what is known of them.
use Rattle.std.proofs.Common.{◌≡◌, ◌∙◌, ◌+◌, ◌==◌, ◌&&◌, ◌||◌, ℕ, zero, suc, Bool, true, false, if◌then◌else◌, List, [], ◌∷◌, ◌++◌, map, take, inl, inr, refl, sym, ap, append_assoc}
use Rattle.std.specs.Prelude.{◌⊎◌, Option, None, Some}
use mathlib.Core.Logic.{⊎_elim}
use Rattle.std.specs.List.{list_any, slice_get}
use Rattle.std.proofs.Math.Numerals.{add-one}
use Rattle.std.specs.Option.{is_some}
use Rattle.std.specs.Str.{bytes_eq}
use Rattle.std.specs.Cmp.Lexicographic.{bytes_decides}
use Rattle.std.proofs.lemmas.Bool.{and_parts, eqb-true, false≢true}
use Rattle.rtl_bits.specs.declared.Bit.{Bit}
use Rattle.rtl_flat.specs.declared.signal.Signal.{Signal}
use Rattle.name_map.specs.Values.{Values, with_value}
use Rattle.vcd_read.specs.declared.dump.Entry.{Entry}
use Rattle.vcd_read.specs.declared.dump.Entry.TheVariants.{Scope, Upscope, Variable as VariableEntry}
use Rattle.vcd_read.specs.Frames.{Variable, Written, path_in as path_in_scopes, value, variables_in}
use Rattle.vcd_signals.specs.Keys.{AreFirst, AreWanted, declared_by, entered, first_code, key, known_behind, prefix, scopes_behind, signal_key, variable_key}
use Rattle.vcd_signals.specs.Recording.{variable_with}
use Rattle.vcd_signals.specs.Signals.{first_value, path_in, records}
use Rattle.vcd_signals.proofs.Behind.{value_like}

-- ---- keys

same_keys : (p q : List ℕ) (a b : ℕ) → bytes_eq (key p a) (key q b) ≡ (bytes_eq p q && (a == b))
same_keys [] [] a b = last (a == b)
  where
    last : (x : Bool) → (x && true) ≡ x
    last true = refl
    last false = refl
same_keys [] (y ∷ []) a b = never (a == y)
  where
    never : (x : Bool) → (x && false) ≡ false
    never true = refl
    never false = refl
same_keys [] (y ∷ z ∷ q) a b = never (a == y)
  where
    never : (x : Bool) → (x && false) ≡ false
    never true = refl
    never false = refl
same_keys (x ∷ []) [] a b = never (x == b)
  where
    never : (x : Bool) → (x && false) ≡ false
    never true = refl
    never false = refl
same_keys (x ∷ z ∷ p) [] a b = never (x == b)
  where
    never : (x : Bool) → (x && false) ≡ false
    never true = refl
    never false = refl
same_keys (x ∷ p) (y ∷ q) a b = by (same_keys p q a b) (x == y)
  where
    by : bytes_eq (key p a) (key q b) ≡ (bytes_eq p q && (a == b)) → (t : Bool) → (t && bytes_eq (key p a) (key q b)) ≡ ((t && bytes_eq p q) && (a == b))
    by same true = same
    by same false = refl

pub key_records : (scope : List ℕ) (signal : Signal) (variable : Variable) → bytes_eq (variable_key variable) (signal_key scope signal) ≡ records scope signal variable
key_records scope signal variable =
    same_keys variable.path (path_in scope signal) variable.width signal.width

-- ---- scopes

pub path_prefix : (scopes : List (List ℕ)) (name : List ℕ) → path_in_scopes scopes name ≡ prefix scopes ++ name
path_prefix [] name = refl
path_prefix (scope ∷ outer) name =
    path_prefix outer (scope ++ 46 ∷ name)
    ∙ ap (λ back. prefix outer ++ back) (sym (append_assoc scope (46 ∷ []) name))
    ∙ sym (append_assoc (prefix outer) (scope ++ 46 ∷ []) name)

-- what is known behind one entry and all others
pub known_more : (wanted : List ℕ) (scopes : List (List ℕ)) (entry : Entry) (entries : List Entry) (known : Option (Option ℕ)) → known_behind wanted (variables_in scopes (entry ∷ entries)) known ≡ known_behind wanted (variables_in (scopes_behind scopes entry) entries) (known_behind wanted (declared_by scopes entry) known)
known_more wanted scopes (Scope name) entries known = refl
known_more wanted scopes Upscope entries known = refl
known_more wanted scopes (VariableEntry variable) entries known = refl

known_one : (wanted : List ℕ) (variables : List Variable) (code : ℕ) → known_behind wanted variables (Some (Some code)) ≡ Some (Some code)
known_one wanted [] code = refl
known_one wanted (variable ∷ variables) code = by (known_one wanted variables code) (bytes_eq (variable_key variable) wanted)
  where
    by : known_behind wanted variables (Some (Some code)) ≡ Some (Some code) → (t : Bool) → known_behind wanted variables (if t then entered (Some (Some code)) variable.code else Some (Some code)) ≡ Some (Some code)
    by same true = same
    by same false = same

-- of a key that is wanted the first code is known
pub known_first : (wanted : List ℕ) (variables : List Variable) → known_behind wanted variables (Some None) ≡ Some (first_code wanted variables)
known_first wanted [] = refl
known_first wanted (variable ∷ variables) = by (known_first wanted variables) (bytes_eq (variable_key variable) wanted)
  where
    by : known_behind wanted variables (Some None) ≡ Some (first_code wanted variables) → (t : Bool) → known_behind wanted variables (if t then entered (Some None) variable.code else Some None) ≡ Some (if t then Some variable.code else first_code wanted variables)
    by same true = known_one wanted variables variable.code
    by same false = same

-- ---- signals

-- the value of a code, if there is one
abbrev pub value_of_code : List Written → ℕ → Option ℕ → Option (List Bit)
value_of_code changes width None = None
value_of_code changes width (Some code) = Some (value changes (variable_with width code))

pub any_first : (scope : List ℕ) (signal : Signal) (variables : List Variable) → list_any (records scope signal) variables ≡ is_some (first_code (signal_key scope signal) variables)
any_first scope signal [] = refl
any_first scope signal (variable ∷ variables) =
    ap (λ t. t || list_any (records scope signal) variables) (sym (key_records scope signal variable))
    ∙ by (any_first scope signal variables) (bytes_eq (variable_key variable) (signal_key scope signal))
  where
    by : list_any (records scope signal) variables ≡ is_some (first_code (signal_key scope signal) variables) → (t : Bool) → (t || list_any (records scope signal) variables) ≡ is_some (if t then Some variable.code else first_code (signal_key scope signal) variables)
    by same true = refl
    by same false = same

-- the value beside the first variable that records a signal is that of its code
pub value_first : (scope : List ℕ) (signal : Signal) (changes : List Written) (variables : List Variable) → first_value (records scope signal) variables (map (value changes) variables) ≡ value_of_code changes signal.width (first_code (signal_key scope signal) variables)
value_first scope signal changes [] = refl
value_first scope signal changes (variable ∷ variables) =
    by (value_first scope signal changes variables) (records scope signal variable) refl
    (bytes_eq (variable_key variable) (signal_key scope signal)) (key_records scope signal variable)
  where
    by : first_value (records scope signal) variables (map (value changes) variables) ≡ value_of_code changes signal.width (first_code (signal_key scope signal) variables) → (t : Bool) → records scope signal variable ≡ t → (u : Bool) → u ≡ records scope signal variable → (if t then Some (value changes variable) else first_value (records scope signal) variables (map (value changes) variables)) ≡ value_of_code changes signal.width (if u then Some variable.code else first_code (signal_key scope signal) variables)
    by same true is true also =
        let (path, wide) = and_parts (bytes_eq variable.path (path_in scope signal)) (variable.width == signal.width) is in
        ap (λ v. Some v) (value_like changes variable signal.width (eqb-true variable.width signal.width wide))
    by same true is false also = absurd (false≢true (also ∙ is))
    by same false is true also = absurd (false≢true (sym (also ∙ is)))
    by same false is false also = same

-- ---- all signals

push_get : {A : Type 0} (xs : List A) (x : A) (i : ℕ) (y : A) → slice_get (xs ++ x ∷ []) i ≡ Some y → (slice_get xs i ≡ Some y) ⊎ (x ≡ y)
push_get [] x zero y is = inr (by is)
  where
    by : Some x ≡ Some y → x ≡ y
    by e = cc
push_get [] x (suc i) y is = absurd (cc)
push_get (z ∷ xs) x zero y is = inl is
push_get (z ∷ xs) x (suc i) y is = push_get xs x i y is

none_with : (values : Values (Option ℕ)) (name other : List ℕ) → (bytes_eq name other ≡ true) ⊎ (values other ≡ Some None) → with_value values name None other ≡ Some None
none_with values name other one = by (bytes_eq name other) refl one
  where
    by : (t : Bool) → bytes_eq name other ≡ t → (bytes_eq name other ≡ true) ⊎ (values other ≡ Some None) → (if t then Some None else values other) ≡ Some None
    by true is one = refl
    by false is (inl same) = absurd (false≢true (sym is ∙ same))
    by false is (inr kept) = kept

pub wanted_more : (scope : List ℕ) (signals : List Signal) (item : Signal) (old new : Values (Option ℕ)) → AreWanted scope signals old → new ≡ with_value old (signal_key scope item) None → AreWanted scope (signals ++ item ∷ []) new
wanted_more scope signals item old new are is i signal there =
    ap (λ (values : Values (Option ℕ)). values (signal_key scope signal)) is
    ∙ none_with old (signal_key scope item) (signal_key scope signal)
    (⊎_elim
    (λ before. inr (are i signal before))
    (λ (same : item ≡ signal). inl ((bytes_decides (signal_key scope item) (signal_key scope signal)).1 (ap (signal_key scope) same)))
    (push_get signals item i signal there))

-- what is known at the end of a walk is known of each signal
pub known_all : (scope : List ℕ) (signals : List Signal) (variables : List Variable) (known : Values (Option ℕ)) → ((i : ℕ) (signal : Signal) → slice_get signals i ≡ Some signal → known (signal_key scope signal) ≡ known_behind (signal_key scope signal) variables (Some None)) → AreFirst scope signals variables known
known_all scope signals variables known are i signal is =
    are i signal is ∙ known_first (signal_key scope signal) variables

take_longer : {A B : Type 0} (f : A → B) (xs : List A) (k : ℕ) (x : A) → slice_get xs k ≡ Some x → map f (take (suc k) xs) ≡ map f (take k xs) ++ f x ∷ []
take_longer f [] k x is = absurd (cc)
take_longer f (y ∷ xs) zero x is = by is
  where
    by : Some y ≡ Some x → f y ∷ [] ≡ f x ∷ []
    by e = cc
take_longer f (y ∷ xs) (suc k) x is = ap (λ l. f y ∷ l) (take_longer f xs k x is)

-- what is made of one element more
pub map_longer : {A B : Type 0} (f : A → B) (xs : List A) (k : ℕ) (x : A) → slice_get xs k ≡ Some x → map f (take (k + 1) xs) ≡ map f (take k xs) ++ f x ∷ []
map_longer f xs k x is = ap (λ (n : ℕ). map f (take n xs)) (add-one k) ∙ take_longer f xs k x is
