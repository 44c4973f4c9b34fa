use Rattle.std.proofs.Common.{◌≡◌, ℕ, List, map, Bor, sym, true, false, inl, inr, arith}
use Rattle.std.proofs.lemmas.List.{length-map}
use Rattle.smltl.proofs.Listing.{any_from_given, given_from_any}
use Rattle.smltl.proofs.list.name_on.Goals as goal

pub returns-clause-name : goal.returns-clause-name
returns-clause-name c = (
  c.in-Ok.ensures.cases.0,
  λ bad. elim bad [
    | inl long ↦ omega arith
    | inr other ↦ elim other [
      | inl no_text ↦ no_text c.in-Ok.ensures.cases.1
      | inr more ↦ elim more [ inl given ↦ let found = any_from_given _ _ given in let mixed : true ≡ false = cc in absurd cc | inr many ↦ omega (arith, simp length-map at many) ]
    ]
  ],
)

pub returns-then-is_given-clause-none : goal.returns-then-is_given-clause-none
returns-then-is_given-clause-none c =
    inr (inr (inl (given_from_any (map (λ (n : Bor (List ℕ)). n.now) c.args.names.now) c.args.line.now (sym c.if-is_given.ensures))))
