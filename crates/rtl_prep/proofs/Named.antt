-- Names in order, in the words of a set of slices.
use Rattle.std.specs.Prelude.{ℕ, ◌||◌, Bool, true, false, List, [], ◌∷◌, ◌++◌, map}
use Rattle.std.specs.List.{list_any}
use Rattle.std.specs.BTreeSet.{insert_key}
use Rattle.std.specs.Set.{remove_key}
use Rattle.std.specs.Cmp.Lexicographic.{slice_cmp, bytes_decides, nat_list_eq_equiv}
use Rattle.std.specs.Ordering.{is_eq, nat_cmp, match_ordering}
use Rattle.std.specs.declared.cmp.Ordering.{Ordering}
use Rattle.std.specs.declared.cmp.Ordering.TheVariants.{Less, Equal, Greater}
use Rattle.std.specs.Str.{bytes_eq}
use Rattle.std.proofs.Common.{◌≡◌, refl, sym, ap, ◌∙◌, cond, Bor, append_assoc}
use Rattle.std.proofs.lemmas.List.{append-nil}
use Rattle.std.proofs.lemmas.Map.Text.{is_eq-slice_cmp}
use Rattle.rtl_prep.specs.Conditions.{with_name, without_name}
use Rattle.rtl_prep.specs.Passes.{has}

abbrev pub Key : Type 0
Key = Bor (List ℕ)

abbrev pub now : List Key → List (List ℕ)
now ks = map (λ k. k.now) ks

pub has_now : (name : List ℕ) (ks : List Key) → list_any (λ k. is_eq (slice_cmp nat_cmp name k.now)) ks ≡ has (now ks) name
has_now name [] = refl
has_now name (k ∷ ks) = ap (λ b. is_eq (slice_cmp nat_cmp name k.now) || b) (has_now name ks)

placed : (k x : Key) (xs others : List Key) (o : Ordering) → now others ≡ with_name (now xs) k.now
    → now (match_ordering o (k ∷ x ∷ xs) (x ∷ xs) (x ∷ others)) ≡ match_ordering o (k.now ∷ x.now ∷ now xs) (x.now ∷ now xs) (x.now ∷ with_name (now xs) k.now)
placed k x xs others Less e = refl
placed k x xs others Equal e = refl
placed k x xs others Greater e = ap (λ names. x.now ∷ names) e

pub with_now : (k : Key) (ks : List Key) → now (insert_key (λ x y. slice_cmp nat_cmp x.now y.now) ks k) ≡ with_name (now ks) k.now
with_now k [] = refl
with_now k (x ∷ xs) = placed k x xs (insert_key (λ x y. slice_cmp nat_cmp x.now y.now) xs k) (slice_cmp nat_cmp k.now x.now) (with_now k xs)

taken : (b : Bool) (x : Key) (xs others : List Key) (name : List ℕ) → now others ≡ without_name (now xs) name
    → now (cond b xs (x ∷ others)) ≡ cond b (now xs) (x.now ∷ without_name (now xs) name)
taken true x xs others name e = refl
taken false x xs others name e = ap (λ names. x.now ∷ names) e

pub without_now : (name : List ℕ) (ks : List Key) → now (remove_key (λ k. is_eq (slice_cmp nat_cmp name k.now)) ks) ≡ without_name (now ks) name
without_now name [] = refl
without_now name (x ∷ xs) = taken (is_eq (slice_cmp nat_cmp name x.now)) x xs (remove_key (λ k. is_eq (slice_cmp nat_cmp name k.now)) xs) name (without_now name xs)

-- ---- one name more

flips : (q k : List ℕ) → is_eq (slice_cmp nat_cmp q k) ≡ bytes_eq k q
flips q k = is_eq-slice_cmp q k ∙ nat_list_eq_equiv.symm q k

same : (k x : List ℕ) (o : Ordering) → slice_cmp nat_cmp k x ≡ o → is_eq o ≡ true → k ≡ x
same k x o e f = (bytes_decides k x).0 (sym (is_eq-slice_cmp k x) ∙ ap is_eq e ∙ f)

twice : (b r : Bool) → (b || r) ≡ (b || (b || r))
twice true r = refl
twice false r = refl

turned : (a b r : Bool) → (a || (b || r)) ≡ (b || (a || r))
turned true true r = refl
turned true false r = refl
turned false b r = refl

has_placed : (k x q : List ℕ) (xs others : List (List ℕ)) (o : Ordering) → slice_cmp nat_cmp k x ≡ o → has others q ≡ (bytes_eq k q || has xs q)
    → has (match_ordering o (k ∷ x ∷ xs) (x ∷ xs) (x ∷ others)) q ≡ (bytes_eq k q || has (x ∷ xs) q)
has_placed k x q xs others Less e h = ap (λ b. b || has (x ∷ xs) q) (flips q k)
has_placed k x q xs others Equal e h =
    twice (is_eq (slice_cmp nat_cmp q x)) (has xs q)
    ∙ ap (λ b. b || has (x ∷ xs) q) (flips q x ∙ ap (λ name. bytes_eq name q) (sym (same k x Equal e refl)))
has_placed k x q xs others Greater e h =
    ap (λ b. is_eq (slice_cmp nat_cmp q x) || b) h ∙ turned (is_eq (slice_cmp nat_cmp q x)) (bytes_eq k q) (has xs q)

pub has_with : (names : List (List ℕ)) (k q : List ℕ) → has (with_name names k) q ≡ (bytes_eq k q || has names q)
has_with [] k q = ap (λ b. b || false) (flips q k)
has_with (x ∷ xs) k q = has_placed k x q xs (with_name xs k) (slice_cmp nat_cmp k x) refl (has_with xs k q)

-- ---- names one after the other

pub one_more : (ts all : List (List ℕ)) (s t : List Key) (k : Key) → s ≡ k ∷ t → ts ++ now s ≡ all → (ts ++ k.now ∷ []) ++ now t ≡ all
one_more ts all s t k e h = append_assoc ts (k.now ∷ []) (now t) ∙ ap (λ u. ts ++ now u) (sym e) ∙ h

pub no_more : (ts all : List (List ℕ)) (s : List Key) → s ≡ [] → ts ++ now s ≡ all → ts ≡ all
no_more ts all s e h = sym (append-nil ts) ∙ ap (λ u. ts ++ now u) (sym e) ∙ h
