-- The refusal codes: their numbers and their texts.
use Rattle.std.specs.Prelude.{ℕ, List, codes}
use Rattle.tl_text.specs.declared.code.Code.{Code}
use Rattle.tl_text.specs.declared.code.Code.TheVariants.{BadToken, BadEscape, OpenComment, OpenString, LiteralRange, RealLiteral, SourceSize, TotalSize, NameLength, Depth, Grammar, FixityClash, Repeated, Rebinds, RecNotFn, Clauses, TyvarScope, Unbound, NotTyped, FlexRow, FreeTyvar, TypeSize, NoMatch, Sharing, WhereType, ExnTyvar, ConsArg, RefutablePoly, EqPattern, EqValue, DataSharing, DataWhere, Abstype, TopExp, Stamps, Unbuilt}

abbrev pub number_of : Code → ℕ
number_of BadToken = 1
number_of BadEscape = 2
number_of OpenComment = 3
number_of OpenString = 4
number_of LiteralRange = 5
number_of RealLiteral = 6
number_of SourceSize = 7
number_of TotalSize = 8
number_of NameLength = 9
number_of Depth = 10
number_of Grammar = 11
number_of FixityClash = 12
number_of Repeated = 13
number_of Rebinds = 14
number_of RecNotFn = 15
number_of Clauses = 16
number_of TyvarScope = 17
number_of Unbound = 18
number_of NotTyped = 19
number_of FlexRow = 20
number_of FreeTyvar = 21
number_of TypeSize = 22
number_of NoMatch = 23
number_of Sharing = 24
number_of WhereType = 25
number_of ExnTyvar = 26
number_of ConsArg = 27
number_of RefutablePoly = 28
number_of EqPattern = 29
number_of EqValue = 30
number_of DataSharing = 31
number_of DataWhere = 32
number_of Abstype = 33
number_of TopExp = 34
number_of Stamps = 35
number_of Unbuilt = 36

abbrev pub text_of : Code → List ℕ
text_of BadToken = codes "no token begins here"
text_of BadEscape = codes "bad escape"
text_of OpenComment = codes "comment is not closed"
text_of OpenString = codes "string is not closed"
text_of LiteralRange = codes "literal out of range"
text_of RealLiteral = codes "real literals are not supported"
text_of SourceSize = codes "source is too large"
text_of TotalSize = codes "sources are too large together"
text_of NameLength = codes "name is too long"
text_of Depth = codes "nesting is too deep"
text_of Grammar = codes "syntax error"
text_of FixityClash = codes "operators of one precedence associate differently"
text_of Repeated = codes "bound twice"
text_of Rebinds = codes "this identifier cannot be bound"
text_of RecNotFn = codes "val rec binds a variable to fn"
text_of Clauses = codes "clauses do not agree"
text_of TyvarScope = codes "type variable out of scope"
text_of Unbound = codes "unbound identifier"
text_of NotTyped = codes "no typing"
text_of FlexRow = codes "flexible record is not determined"
text_of FreeTyvar = codes "type variables stay free"
text_of TypeSize = codes "type is too large"
text_of NoMatch = codes "structure does not match signature"
text_of Sharing = codes "types cannot be shared"
text_of WhereType = codes "type cannot be realised"
text_of ExnTyvar = codes "exception type has a type variable"
text_of ConsArg = codes "pattern :: needs a pair"
text_of RefutablePoly = codes "refutable pattern would be polymorphic"
text_of EqPattern = codes "pattern would generalise equality"
text_of EqValue = codes "equality-polymorphic value outside fn"
text_of DataSharing = codes "datatype cannot be shared here"
text_of DataWhere = codes "datatype cannot be realised so"
text_of Abstype = codes "abstype is not supported"
text_of TopExp = codes "top-level expression is not supported"
text_of Stamps = codes "too many type names"
text_of Unbuilt = codes "not supported yet"
