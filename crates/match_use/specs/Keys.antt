-- Constructors and heads that are read from patterns, as those of the definitions.
use Rattle.tl_text.specs.declared.lit.Lit.TheVariants as lit
use Rattle.sml_static.specs.Shapes as static
use Rattle.sml_static.specs.Exhaustive as static_head
use Rattle.match_use.specs.declared.key.Key.{Key}
use Rattle.match_use.specs.declared.key.Key.TheVariants as key
use Rattle.match_use.specs.declared.head.Head.{Head}
use Rattle.match_use.specs.declared.head.Head.TheVariants as head

abbrev pub shared_key : Key → static.Key
shared_key (key.Of d n) = static.Of d n.now
shared_key (key.Exception p) = static.Exn p.now

abbrev pub shared_head : Head → static_head.Head
shared_head (head.Int x) = static_head.HeadLiteral (lit.Int x)
shared_head (head.Word x) = static_head.HeadLiteral (lit.Word x)
shared_head (head.Char c) = static_head.HeadLiteral (lit.Char c)
shared_head (head.Text text) = static_head.HeadLiteral (lit.Text text.now)
shared_head (head.Key k n) = static_head.HeadKey (shared_key k) n
shared_head head.Another = static_head.Another
