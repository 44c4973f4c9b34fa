-- The reserved words by their numbers, which are their places in the list of words.
use Rattle.std.specs.Prelude.{ℕ}

abbrev pub ABSTYPE : ℕ
ABSTYPE = 0

abbrev pub ANDALSO : ℕ
ANDALSO = 1

abbrev pub AS : ℕ
AS = 2

abbrev pub CASE : ℕ
CASE = 3

abbrev pub DATATYPE : ℕ
DATATYPE = 4

abbrev pub DO : ℕ
DO = 5

abbrev pub ELSE : ℕ
ELSE = 6

abbrev pub END : ℕ
END = 7

abbrev pub EXCEPTION : ℕ
EXCEPTION = 8

abbrev pub FN : ℕ
FN = 9

abbrev pub FUN : ℕ
FUN = 10

abbrev pub HANDLE : ℕ
HANDLE = 11

abbrev pub IF : ℕ
IF = 12

abbrev pub IN : ℕ
IN = 13

abbrev pub INFIX : ℕ
INFIX = 14

abbrev pub INFIXR : ℕ
INFIXR = 15

abbrev pub LET : ℕ
LET = 16

abbrev pub LOCAL : ℕ
LOCAL = 17

abbrev pub NONFIX : ℕ
NONFIX = 18

abbrev pub OF : ℕ
OF = 19

abbrev pub OP : ℕ
OP = 20

abbrev pub OPEN : ℕ
OPEN = 21

abbrev pub ORELSE : ℕ
ORELSE = 22

abbrev pub RAISE : ℕ
RAISE = 23

abbrev pub REC : ℕ
REC = 24

abbrev pub THEN : ℕ
THEN = 25

abbrev pub TYPE : ℕ
TYPE = 26

abbrev pub VAL : ℕ
VAL = 27

abbrev pub WITH : ℕ
WITH = 28

abbrev pub WITHTYPE : ℕ
WITHTYPE = 29

abbrev pub WHILE : ℕ
WHILE = 30

abbrev pub EQTYPE : ℕ
EQTYPE = 31

abbrev pub FUNCTOR : ℕ
FUNCTOR = 32

abbrev pub INCLUDE : ℕ
INCLUDE = 33

abbrev pub SHARING : ℕ
SHARING = 34

abbrev pub SIG : ℕ
SIG = 35

abbrev pub SIGNATURE : ℕ
SIGNATURE = 36

abbrev pub STRUCT : ℕ
STRUCT = 37

abbrev pub STRUCTURE : ℕ
STRUCTURE = 38

abbrev pub WHERE : ℕ
WHERE = 39

-- (
abbrev pub OPEN_PAREN : ℕ
OPEN_PAREN = 40

-- )
abbrev pub CLOSE_PAREN : ℕ
CLOSE_PAREN = 41

-- [
abbrev pub OPEN_BRACKET : ℕ
OPEN_BRACKET = 42

-- ]
abbrev pub CLOSE_BRACKET : ℕ
CLOSE_BRACKET = 43

-- {
abbrev pub OPEN_BRACE : ℕ
OPEN_BRACE = 44

-- }
abbrev pub CLOSE_BRACE : ℕ
CLOSE_BRACE = 45

-- ,
abbrev pub COMMA : ℕ
COMMA = 46

-- :
abbrev pub COLON : ℕ
COLON = 47

-- :>
abbrev pub SEAL : ℕ
SEAL = 48

-- ;
abbrev pub SEMICOLON : ℕ
SEMICOLON = 49

-- ...
abbrev pub DOTS : ℕ
DOTS = 50

-- _
abbrev pub WILDCARD : ℕ
WILDCARD = 51

-- |
abbrev pub BAR : ℕ
BAR = 52

-- =
abbrev pub EQUALS : ℕ
EQUALS = 53

-- =>
abbrev pub DARROW : ℕ
DARROW = 54

-- ->
abbrev pub ARROW : ℕ
ARROW = 55

abbrev pub AND : ℕ
AND = 56

-- #
abbrev pub HASH : ℕ
HASH = 57
