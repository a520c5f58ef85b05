-- The lines of the listing, as bytes. Definitions; they assume nothing.
use Rattle.std.specs.Prelude.{cond, List, [], ◌∷◌, ◌++◌, ℕ, zero, suc, ◌+◌, ◌-◌, ◌/◌, ◌%◌, eqb, ltb, map, get_or}
use Rattle.std.specs.Borrow.{Bor}
use Rattle.grammar.specs.Reading.Next.{kind_number}
use Rattle.grammar.specs.declared.Answer.{Answer}
use Rattle.grammar.specs.declared.Answer.TheVariants.{Tree, Error, End, Stopped, Refused}
use Rattle.treelist.specs.Text.{bytes}

-- a number's decimal digits, of which there are so many at most
unfoldable pub decimal_within : ℕ → ℕ → List ℕ
decimal_within zero n = []
decimal_within (suc k) n = cond (ltb n 10) ((48 + n) ∷ []) (decimal_within k (n / 10) ++ (48 + n % 10) ∷ [])

-- the digits of a number below 2^64
abbrev pub decimal : ℕ → List ℕ
decimal = decimal_within 20

-- the names of the node kinds in their order, each with a space behind it
unfoldable pub names : List ℕ
names = bytes "Absent List Expression Loop WhileLoop ForLoop Assert StmtList Continue Break Return Primary UnaryOp BinaryOp Assignment Unpack Tuple Table IfExpr Block FunctionDef TableItem ExprBlock ConditionalBranch SignatureDef ParamDef DefaultDef FieldAttribute FieldIndex Nil EmptyTuple Identifier BooleanLiteral IntegerLiteral FloatLiteral StringLiteral Group Attribute Index Invoke InvokeTable IdentifierPattern AttributePattern IndexPattern TuplePattern Pack Modifier "

-- what stands behind so many words, each ended by a space
unfoldable pub behind : ℕ → List ℕ → List ℕ
behind k [] = []
behind k (b ∷ l) = cond (eqb k 0) (b ∷ l) (behind (cond (eqb b 32) (k - 1) k) l)

-- a word: the bytes before the first space
unfoldable pub word : List ℕ → List ℕ
word [] = []
word (b ∷ l) = cond (eqb b 32) [] (b ∷ word l)

abbrev pub name : ℕ → List ℕ
name kind = word (behind kind names)

-- the text at a place of several, or none past them
unfoldable pub name_at : List (Bor (List ℕ)) → ℕ → List ℕ
name_at names k = get_or (map (λ n. n.now) names) k []

-- a node's line, of its two words
abbrev pub node_line : ℕ → ℕ → List ℕ
node_line w v = bytes "kind=" ++ name (w % 256) ++ bytes " kids=" ++ decimal (w / 256) ++ bytes " value=" ++ decimal v ++ bytes "\n"

-- an answer's line, of the text before its number
abbrev pub answer_line : List ℕ → ℕ → List ℕ
answer_line text n = text ++ decimal n ++ bytes "\n"

-- the line of each answer
abbrev pub answer_text : Answer → List ℕ
answer_text (Tree n) = answer_line (bytes "answer=tree nodes=") n
answer_text (Error k) = answer_line (bytes "answer=error number=") (kind_number k)
answer_text End = bytes "answer=end\n"
answer_text (Stopped n) = answer_line (bytes "answer=stopped number=") n
answer_text (Refused n) = answer_line (bytes "answer=refused number=") n
