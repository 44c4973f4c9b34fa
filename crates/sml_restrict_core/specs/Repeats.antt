-- Names and labels that stand twice in a row, and names that may not be bound.
use Rattle.std.specs.Prelude.{Bool, false, if◌then◌else◌, nat_eq, ◌||◌, List, [], ◌∷◌, ◌++◌, codes}
use Rattle.std.specs.Cmp.Lexicographic.{pointwise}
use Rattle.tl_text.specs.declared.code.Code.TheVariants.{Repeated, Rebinds}
use Rattle.tl_text.specs.declared.fault.Refusal.{Refusal}
use Rattle.tl_text.specs.declared.place.Place.{Place}
use Rattle.tl_text.specs.declared.name.Name.{Name}
use Rattle.sml_ast.specs.declared.name.Lab.{Lab}
use Rattle.sml_ast.specs.declared.name.Lab.TheVariants as lab
use Rattle.sml_restrict_core.specs.Breaches.{breach}

-- whether two names, or two labels, are spelled alike
abbrev pub same_name : Name → Name → Bool
same_name x y = pointwise nat_eq x y

abbrev pub same_lab : Lab → Lab → Bool
same_lab (lab.Num m) (lab.Num n) = nat_eq m n
same_lab (lab.Num m) (lab.Word y) = false
same_lab (lab.Word x) (lab.Num n) = false
same_lab (lab.Word x) (lab.Word y) = same_name x y

-- whether a name is among those of a row
abbrev pub contains : Name → List (Place × Name) → Bool
contains x [] = false
contains x (y ∷ ys) = same_name y.1 x || contains x ys

-- a breach at each place at which x stands again
abbrev pub again : Name → List (Place × Name) → List Refusal
again x [] = []
again x (y ∷ ys) = if same_name y.1 x then breach Repeated y.0 ∷ again x ys else again x ys

-- a breach at each later place of a name that stands twice
abbrev pub twice : List (Place × Name) → List Refusal
twice [] = []
twice (x ∷ xs) = again x.1 xs ++ twice xs

-- a breach at each place in a first row of a name that stands earlier in it, and in a second one of a name of the first
abbrev pub crossed : List (Place × Name) → List (Place × Name) → List Refusal
crossed [] ys = []
crossed (x ∷ xs) ys = again x.1 (xs ++ ys) ++ crossed xs ys

-- the same of labels
abbrev pub label_again : Lab → List (Place × Lab) → List Refusal
label_again x [] = []
label_again x (y ∷ ys) = if same_lab y.1 x then breach Repeated y.0 ∷ label_again x ys else label_again x ys

abbrev pub labels_twice : List (Place × Lab) → List Refusal
labels_twice [] = []
labels_twice (x ∷ xs) = label_again x.1 xs ++ labels_twice xs

-- true, false, nil, ::, ref and =, which nothing may bind
abbrev pub is_fixed : Name → Bool
is_fixed x = same_name x (codes "true") || same_name x (codes "false") || same_name x (codes "nil")
    || same_name x (codes "::") || same_name x (codes "ref") || same_name x (codes "=")

-- a breach where a name is bound that may not be
abbrev pub rebinds : Place × Name → List Refusal
rebinds x = if is_fixed x.1 then breach Rebinds x.0 ∷ [] else []

-- the same of a constructor or an exception, which may not be called `it`
abbrev pub con_rebinds : Place × Name → List Refusal
con_rebinds x = if is_fixed x.1 || same_name x.1 (codes "it") then breach Rebinds x.0 ∷ [] else []
