-- Elements of lists, and lists that were read, element by element.
use Rattle.std.proofs.Common.{◌≡◌, ◌∙◌, ◌<◌, ℕ, zero, suc, List, [], ◌∷◌, length, map, ap, arith, refl, subst, sym}
use Rattle.std.specs.Prelude.{Option, Some, slice_get, slice_index_or}
use Rattle.std.specs.List.{All, Contains, cons_option, filter_map}
use Rattle.rtl_tree.specs.TreeModule.{Circuit}
use Rattle.rtl_front.specs.Fronts.{AreRead, IsRead}
use Rattle.source_file.specs.declared.SourceFile.{SourceFile}
use Rattle.source_file.specs.SourceFiles.{texts_in}

-- ---- elements

pub holds_of : {X : Type 0} (P : X → Type 0) (xs : List X) (x : X) → All P xs → Contains xs x → P x
holds_of P xs x all among = subst P among.2 (all among.0 x among.1)

pub first_among : {X : Type 0} (x : X) (xs : List X) → Contains (x ∷ xs) x
first_among x xs = (0, omega arith, refl)

pub later_among : {X : Type 0} (x y : X) (xs : List X) → Contains xs y → Contains (x ∷ xs) y
later_among x y xs among = (suc among.0, omega (arith, among.1), among.2)

named_at : {X : Type 0} (f : X → List ℕ) (xs : List X) (k : ℕ) (name : List ℕ) → k < length (map f xs) → slice_index_or (map f xs) k name ≡ name → (x : X) × Contains xs x × (f x ≡ name)
named_at f [] k name within is = absurd (omega arith)
named_at f (x ∷ xs) zero name within is = (x, first_among x xs, is)
named_at f (x ∷ xs) (suc k) name within is =
    let rest = named_at f xs k name (omega arith) is in
    (rest.0, later_among x rest.0 xs rest.1, rest.2)

-- a name among those of a list is that of an element
pub named_among : {X : Type 0} (f : X → List ℕ) (xs : List X) (name : List ℕ) → Contains (map f xs) name → (x : X) × Contains xs x × (f x ≡ name)
named_among f xs name among = named_at f xs among.0 name among.1 among.2

-- ---- lists that are filtered by what is there

-- what gives the same of each element gives the same of all
pub same_filter : {Y : Type 0} (f g : ℕ → Option Y) (ns : List ℕ) → ((n : ℕ) → Contains ns n → f n ≡ g n) → filter_map f ns ≡ filter_map g ns
same_filter f g [] same = refl
same_filter {Y} f g (n ∷ ns) same =
    ap (λ (it : Option Y). cons_option it (filter_map f ns)) (same n (first_among n ns))
    ∙ ap (cons_option (g n)) (same_filter f g ns (λ m among. same m (later_among n m ns among)))

-- ---- texts that were read

-- the modules of the text with a number
pub read_at : (texts : List (List ℕ)) (modules : List (List Circuit)) (n : ℕ) (text : List ℕ) → AreRead texts modules → slice_get texts n ≡ Some text → (circuits : List Circuit) × (slice_get modules n ≡ Some circuits) × IsRead text circuits
read_at [] modules n text read at = absurd (cc)
read_at (first ∷ texts) [] n text read at = absurd read
read_at (first ∷ texts) (circuits ∷ modules) zero text read at =
    let same : first ≡ text = cc in
    (circuits, refl, subst (λ it. IsRead it circuits) same read.0)
read_at (first ∷ texts) (circuits ∷ modules) (suc n) text read at =
    read_at texts modules n text read.1 at

-- other modules that the text with a number spells go in place of its own
pub other_at : (texts : List (List ℕ)) (modules : List (List Circuit)) (n : ℕ) (text : List ℕ) (circuits : List Circuit) → AreRead texts modules → slice_get texts n ≡ Some text → IsRead text circuits → (others : List (List Circuit)) × AreRead texts others × (slice_get others n ≡ Some circuits)
other_at [] modules n text circuits read at spelled = absurd (cc)
other_at (first ∷ texts) [] n text circuits read at spelled = absurd read
other_at (first ∷ texts) (held ∷ modules) zero text circuits read at spelled =
    let same : first ≡ text = cc in
    (circuits ∷ modules, (subst (λ it. IsRead it circuits) (sym same) spelled, read.1), refl)
other_at (first ∷ texts) (held ∷ modules) (suc n) text circuits read at spelled =
    let rest = other_at texts modules n text circuits read.1 at spelled in
    (held ∷ rest.0, (read.0, rest.1), rest.2)

-- each list of modules is that of a file
pub file_there : (files : List SourceFile) (modules : List (List Circuit)) (n : ℕ) (circuits : List Circuit) → AreRead (texts_in files) modules → slice_get modules n ≡ Some circuits → (file : SourceFile) × (slice_get files n ≡ Some file)
file_there [] [] n circuits read at = absurd (cc)
file_there [] (held ∷ modules) n circuits read at = absurd read
file_there (file ∷ files) [] n circuits read at = absurd read
file_there (file ∷ files) (held ∷ modules) zero circuits read at = (file, refl)
file_there (file ∷ files) (held ∷ modules) (suc n) circuits read at =
    file_there files modules n circuits read.1 at
