-- What the reader of the list needs of its lines.
use Rattle.std.proofs.Common.{◌≡◌, ◌⊎◌, ℕ, zero, suc, ◌+◌, ◌<◌, ◌≤◌, ◌==◌, List, [], ◌∷◌, ◌++◌, map, length, take, get_or, Bool, true, false, cond, Option, Some, None, IfSome, IfNone, Bor, inl, inr, refl, sym, ap, subst, not, nat_eq, ◌∙◌, arith}
use Rattle.std.specs.List.{filter, count_by, list_any, enumerate_from, Contains}
use Rattle.std.specs.Option.{option_eq}
use Rattle.std.specs.Str.Lines.{strip_carriage_return}
use Rattle.std.proofs.lemmas.Bool.{cases_lt, cases_Bool, eqb-true, eq-eqb}
use Rattle.std.proofs.lemmas.Bool.Decides.{eqb_tells}
use Rattle.std.proofs.lemmas.Str.{IsUtf8-from_is_utf8, is_utf8-from_IsUtf8}
use Rattle.std.specs.Str.{IsUtf8, is_utf8, bytes_eq}
use Rattle.std.proofs.lemmas.List.{length-map, get_or-map, map_push, append-nil, take_all}
use Rattle.std.proofs.lemmas.List.Elements.{filter_more}
use Rattle.std.proofs.lemmas.List.Folds.{list_any_at}
use Rattle.std.proofs.lemmas.Map.Views.{Contains-from_any}
use Rattle.std.proofs.lemmas.Slice.Eq.{bytes_eq-Decides}
use Rattle.std.proofs.lemmas.List.FromFn.{length-enumerate_from, get_or-enumerate_from}
use Rattle.std.proofs.lemmas.List.Splits.{length-slice_split}
use Rattle.std.proofs.lemmas.List.Sums.{sum_by-take-le}
use Rattle.smltl.specs.Listing.{Listed, BadLine, IsBadAt, IsNoName, IsNoNameAt, name_limit, names_limit, is_passed_over, HoldsPastLimit, names_among, parts_of, lines_of, list_limit}

-- a part that comes with its number, after n others: the number is n, and without its return it is the line there
pub line_in_turn : (bytes : List ℕ) (n i : ℕ) (part : List ℕ) → n < length (enumerate_from 0 (parts_of bytes)) → ◌≡◌ {A = ℕ × List ℕ} (i, part) (get_or (enumerate_from 0 (parts_of bytes)) n (i, part)) → (i ≡ n) × (n < length (lines_of bytes)) × (get_or (lines_of bytes) n [] ≡ strip_carriage_return part)
line_in_turn bytes n i part below is =
    let within : n < length (parts_of bytes) = omega (arith, length-enumerate_from 0 (parts_of bytes)) in
    let both = is ∙ get_or-enumerate_from 0 (parts_of bytes) n (i, part) within in
    let number = ap (λ (p : ℕ × List ℕ). p.0) both in
    let here = ap (λ (p : ℕ × List ℕ). p.1) both in
    (omega arith, omega (arith, length-map (parts_of bytes) strip_carriage_return), get_or-map strip_carriage_return (parts_of bytes) n part [] within ∙ ap strip_carriage_return (sym here))

-- so many parts come with their numbers as there are lines
pub all_lines_in_turn : (bytes : List ℕ) → length (enumerate_from 0 (parts_of bytes)) ≡ length (lines_of bytes)
all_lines_in_turn bytes = length-enumerate_from 0 (parts_of bytes) ∙ sym (length-map (parts_of bytes) strip_carriage_return)

-- what is no name after these is none after equal ones
pub no_name_as : (names others : List (List ℕ)) (line other : List ℕ) → names ≡ others → line ≡ other → IsNoName names line → IsNoName others other
no_name_as names others line other e f differs = subst (λ (each : List ℕ). IsNoName others each) f (subst (λ (all : List (List ℕ)). IsNoName all line) e differs)

-- the line that the answer names holds the byte past the limit
pub bad_past : (bytes : List ℕ) (past : Option ℕ) (i : ℕ) → IfSome past (HoldsPastLimit bytes) → true ≡ option_eq nat_eq past (Some i) → IsBadAt bytes i
bad_past bytes None i some named = absurd cc
bad_past bytes (Some k) i some named = inl (some.0, sym (eqb-true k i (sym named)) ∙ some.1)

-- a line that it does not name does not hold it
not_past : (bytes : List ℕ) (past : Option ℕ) (i : ℕ) → IfSome past (HoldsPastLimit bytes) → IfNone past (length bytes ≤ list_limit) → false ≡ option_eq nat_eq past (Some i) → HoldsPastLimit bytes i → ⊥
not_past bytes None i some none differs (long, here) = let short : length bytes ≤ list_limit = none in omega arith
not_past bytes (Some k) i some none differs (long, here) = let named : nat_eq k i ≡ true = eq-eqb k i (some.1 ∙ sym here) in cc

-- such a line is not bad where it is passed over or a name
good_here : (bytes : List ℕ) (i : ℕ) → (HoldsPastLimit bytes i → ⊥) → (is_passed_over (get_or (lines_of bytes) i []) ≡ false → IsNoName (names_among (take i (lines_of bytes))) (get_or (lines_of bytes) i []) → ⊥) → IsBadAt bytes i → ⊥
good_here bytes i past name (inl holds) = past holds
good_here bytes i past name (inr (within, entry, no_name)) = name entry no_name

pub good_passed_over : (bytes : List ℕ) (past : Option ℕ) (i : ℕ) (line : List ℕ) → IfSome past (HoldsPastLimit bytes) → IfNone past (length bytes ≤ list_limit) → false ≡ option_eq nat_eq past (Some i) → get_or (lines_of bytes) i [] ≡ line → is_passed_over line ≡ true → IsBadAt bytes i → ⊥
good_passed_over bytes past i line some none differs here passed =
    good_here bytes i (not_past bytes past i some none differs) (λ entry no_name. let is = ap is_passed_over here in let mixed : true ≡ false = sym passed ∙ (sym is ∙ entry) in absurd cc)

pub good_name : (bytes : List ℕ) (past : Option ℕ) (i : ℕ) (line : List ℕ) (names : List (List ℕ)) → IfSome past (HoldsPastLimit bytes) → IfNone past (length bytes ≤ list_limit) → false ≡ option_eq nat_eq past (Some i) → get_or (lines_of bytes) i [] ≡ line → names ≡ names_among (take i (lines_of bytes)) → (IsNoName names line → ⊥) → IsBadAt bytes i → ⊥
good_name bytes past i line names some none differs here told name =
    good_here bytes i (not_past bytes past i some none differs) (λ entry no_name. name (no_name_as (names_among (take i (lines_of bytes))) names (get_or (lines_of bytes) i []) line (sym told) here no_name))

-- the names among the lines, one line on
filter_more_no : (p : List ℕ → Bool) (xs : List (List ℕ)) (i : ℕ) → i < length xs → p (get_or xs i []) ≡ false → filter p (take (i + 1) xs) ≡ filter p (take i xs)
filter_more_no p xs i within differs = filter_more p xs i [] within ∙ (ap (λ (b : Bool). filter p (take i xs) ++ cond b (get_or xs i [] ∷ []) []) differs ∙ append-nil (filter p (take i xs)))

filter_more_yes : (p : List ℕ → Bool) (xs : List (List ℕ)) (i : ℕ) → i < length xs → p (get_or xs i []) ≡ true → filter p (take (i + 1) xs) ≡ filter p (take i xs) ++ get_or xs i [] ∷ []
filter_more_yes p xs i within named = filter_more p xs i [] within ∙ ap (λ (b : Bool). filter p (take i xs) ++ cond b (get_or xs i [] ∷ []) []) named

pub told_passed_over : (names : List (List ℕ)) (bytes : List ℕ) (i : ℕ) (line : List ℕ) → i < length (lines_of bytes) → get_or (lines_of bytes) i [] ≡ line → is_passed_over line ≡ true → names ≡ names_among (take i (lines_of bytes)) → names ≡ names_among (take (i + 1) (lines_of bytes))
told_passed_over names bytes i line within here passed told =
    told ∙ sym (filter_more_no (λ each. not (is_passed_over each)) (lines_of bytes) i within (ap not (ap is_passed_over here ∙ passed)))

pub told_name : (names more : List (Bor (List ℕ))) (name : Bor (List ℕ)) (bytes : List ℕ) (i : ℕ) (line : List ℕ) → i < length (lines_of bytes) → get_or (lines_of bytes) i [] ≡ line → is_passed_over line ≡ false → name.now ≡ line → more ≡ names ++ name ∷ [] → map (λ n. n.now) names ≡ names_among (take i (lines_of bytes)) → map (λ n. n.now) more ≡ names_among (take (i + 1) (lines_of bytes))
told_name names more name bytes i line within here entry is pushed told =
    let step = filter_more_yes (λ each. not (is_passed_over each)) (lines_of bytes) i within (ap not (ap is_passed_over here ∙ entry)) in
    let all = ap (λ (each : List (Bor (List ℕ))). map (λ (n : Bor (List ℕ)). n.now) each) pushed ∙ map_push (λ (n : Bor (List ℕ)). n.now) names name in
    let last : name.now ≡ get_or (lines_of bytes) i [] = is ∙ sym here in
    all ∙ (ap (λ (each : List (List ℕ)). each ++ name.now ∷ []) told ∙ (ap (λ (each : List ℕ). names_among (take i (lines_of bytes)) ++ each ∷ []) last ∙ sym step))

-- a bad line is one of the lines
pub bad_within : (bytes : List ℕ) (i : ℕ) → IsBadAt bytes i → i < length (lines_of bytes)
bad_within bytes i (inl (long, here)) =
    omega (arith, sum_by-take-le (λ b. cond (b == 10) 1 0) bytes list_limit, length-map (parts_of bytes) strip_carriage_return, length-slice_split (λ b. b == 10) bytes)
bad_within bytes i (inr (within, entry, no_name)) = within

-- the first bad line is one
pub one_bad_line : (bytes : List ℕ) (line other : ℕ) → BadLine bytes line → BadLine bytes other → line ≡ other
one_bad_line bytes line other (i, line_is, bad, first) (j, other_is, bad_too, first_too) =
    elim (cases_lt i j) [
      | inl before ↦ absurd (first_too i before bad)
      | inr not_before ↦ elim (cases_lt j i) [ inl after ↦ absurd (first j after bad_too) | inr not_after ↦ omega arith ]
    ]

-- where no line up to the last is bad, the list is good
pub good_list : (bytes : List ℕ) (n : ℕ) (names : List (List ℕ)) → n ≡ length (lines_of bytes) → ((j : ℕ) → j < n → IsBadAt bytes j → ⊥) → names ≡ names_among (take n (lines_of bytes)) → Listed bytes names
good_list bytes n names all good listed = record {
  good = λ j bad. let within = bad_within bytes j bad in good j (omega arith) bad;
  listed = listed ∙ ap names_among (take_all n (lines_of bytes) (omega arith));
}

-- a line is among the names where the test finds it
pub given_from_any : (names : List (List ℕ)) (line : List ℕ) → list_any (λ name. bytes_eq name line) names ≡ true → Contains names line
given_from_any names line found = Contains-from_any {eq = λ (x y : List ℕ). bytes_eq y x} (λ x y same. sym ((bytes_eq-Decides y x).0 same)) line names found

-- and the test finds it where it is
pub any_from_given : (names : List (List ℕ)) (line : List ℕ) → Contains names line → list_any (λ name. bytes_eq name line) names ≡ true
any_from_given names line (k, below, is) = list_any_at (λ name. bytes_eq name line) names k line below ((bytes_eq-Decides (get_or names k line) line).1 is)

-- a short text that was not given is a name
a_name : (names : List (List ℕ)) (line : List ℕ) → length line ≤ name_limit → IsUtf8 line → list_any (λ name. bytes_eq name line) names ≡ false → length names < names_limit → IsNoName names line → ⊥
a_name names line short text new few (inl long) = omega arith
a_name names line short text new few (inr (inl no_text)) = no_text text
a_name names line short text new few (inr (inr (inl given))) = let mixed : true ≡ false = sym (any_from_given names line given) ∙ new in absurd cc
a_name names line short text new few (inr (inr (inr enough))) = omega arith

-- a line is no name, or it is not no name
no_name_or_not : (names : List (List ℕ)) (line : List ℕ) → IsNoName names line ⊎ (IsNoName names line → ⊥)
no_name_or_not names line =
    elim (cases_lt name_limit (length line)) [
      | inl long ↦ inl (inl long)
      | inr short ↦ elim (cases_Bool (is_utf8 line)) [
        | inr no_text ↦ inl (inr (inl (λ text. let is = is_utf8-from_IsUtf8 line text in let mixed : true ≡ false = sym is ∙ no_text in absurd cc)))
        | inl text ↦ elim (cases_Bool (list_any (λ name. bytes_eq name line) names)) [
          | inl given ↦ inl (inr (inr (inl (given_from_any names line given))))
          | inr new ↦ elim (cases_lt (length names) names_limit) [
            | inr enough ↦ inl (inr (inr (inr enough)))
            | inl few ↦ inr (a_name names line short (IsUtf8-from_is_utf8 line text) new few)
          ]
        ]
      ]
    ]

-- a line holds the byte past the limit or not
past_or_not : (bytes : List ℕ) (i : ℕ) → HoldsPastLimit bytes i ⊎ (HoldsPastLimit bytes i → ⊥)
past_or_not bytes i =
    elim (cases_lt list_limit (length bytes)) [
      | inr within ↦ inr (λ holds. omega arith)
      | inl long ↦ elim (eqb_tells i (count_by (λ b. b == 10) (take list_limit bytes))) [
        | inl same ↦ inl (long, same.1)
        | inr other ↦ inr (λ holds. other.1 holds.1)
      ]
    ]

-- a line is no name among those before it, or not
no_name_at_or_not : (bytes : List ℕ) (i : ℕ) → IsNoNameAt bytes i ⊎ (IsNoNameAt bytes i → ⊥)
no_name_at_or_not bytes i =
    elim (cases_lt i (length (lines_of bytes))) [
      | inr past ↦ inr (λ no_name. omega arith)
      | inl within ↦ elim (cases_Bool (is_passed_over (get_or (lines_of bytes) i []))) [
        | inl passed ↦ inr (λ no_name. let (here, entry, last) = no_name in let mixed : true ≡ false = sym passed ∙ entry in absurd cc)
        | inr entry ↦ elim (no_name_or_not (names_among (take i (lines_of bytes))) (get_or (lines_of bytes) i [])) [
          | inl none ↦ inl (within, entry, none)
          | inr name ↦ inr (λ no_name. let (here, stands, none) = no_name in name none)
        ]
      ]
    ]

-- a line is bad or not
bad_or_not : (bytes : List ℕ) (i : ℕ) → IsBadAt bytes i ⊎ (IsBadAt bytes i → ⊥)
bad_or_not bytes i =
    elim (past_or_not bytes i) [
      | inl holds ↦ inl (inl holds)
      | inr before ↦ elim (no_name_at_or_not bytes i) [
        | inl no_name ↦ inl (inr no_name)
        | inr name ↦ inr (λ bad. elim bad [ inl holds ↦ before holds | inr no_name ↦ name no_name ])
      ]
    ]

-- below a number there is a first bad line or none
first_bad_or_none : (bytes : List ℕ) (n : ℕ) → ((line : ℕ) × BadLine bytes line) ⊎ ((j : ℕ) → j < n → IsBadAt bytes j → ⊥)
first_bad_or_none bytes zero = inr (λ j below bad. omega arith)
first_bad_or_none bytes (suc n) =
    elim (first_bad_or_none bytes n) [
      | inl found ↦ inl found
      | inr good ↦ elim (bad_or_not bytes n) [
        | inl bad ↦ inl (suc n, (n, refl, bad, good))
        | inr good_too ↦ inr (λ j below. elim (cases_lt j n) [ inl before ↦ good j before | inr not_before ↦ let last : j ≡ n = omega arith in subst (λ (k : ℕ). IsBadAt bytes k → ⊥) (sym last) good_too ])
      ]
    ]

-- each list is good or has a first bad line
pub some_reading : (bytes : List ℕ) → ((names : List (List ℕ)) × Listed bytes names) ⊎ ((line : ℕ) × BadLine bytes line)
some_reading bytes =
    elim (first_bad_or_none bytes (length (lines_of bytes))) [
      | inl found ↦ inr found
      | inr good ↦ inl (names_among (lines_of bytes), record { good = λ j bad. good j (bad_within bytes j bad) bad; listed = refl })
    ]
