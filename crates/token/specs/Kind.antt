-- The token kinds: their places in the Rust's enum `Token`, and after them the lexer error. Assumes nothing.
use Rattle.std.specs.Prelude.{ℕ}

abbrev pub OpenParen : ℕ
OpenParen = 0

abbrev pub CloseParen : ℕ
CloseParen = 1

abbrev pub OpenBrace : ℕ
OpenBrace = 2

abbrev pub CloseBrace : ℕ
CloseBrace = 3

abbrev pub OpenSquare : ℕ
OpenSquare = 4

abbrev pub CloseSquare : ℕ
CloseSquare = 5

abbrev pub Comma : ℕ
Comma = 6

abbrev pub Colon : ℕ
Colon = 7

abbrev pub Semicolon : ℕ
Semicolon = 8

abbrev pub Ellipsis : ℕ
Ellipsis = 9

abbrev pub Decorator : ℕ
Decorator = 10

abbrev pub OpAdd : ℕ
OpAdd = 11

abbrev pub OpSub : ℕ
OpSub = 12

abbrev pub OpMul : ℕ
OpMul = 13

abbrev pub OpDiv : ℕ
OpDiv = 14

abbrev pub OpMod : ℕ
OpMod = 15

abbrev pub OpExp : ℕ
OpExp = 16

abbrev pub OpInv : ℕ
OpInv = 17

abbrev pub OpAnd : ℕ
OpAnd = 18

abbrev pub OpOr : ℕ
OpOr = 19

abbrev pub OpXor : ℕ
OpXor = 20

abbrev pub OpLShift : ℕ
OpLShift = 21

abbrev pub OpRShift : ℕ
OpRShift = 22

abbrev pub OpAddAssign : ℕ
OpAddAssign = 23

abbrev pub OpSubAssign : ℕ
OpSubAssign = 24

abbrev pub OpMulAssign : ℕ
OpMulAssign = 25

abbrev pub OpDivAssign : ℕ
OpDivAssign = 26

abbrev pub OpModAssign : ℕ
OpModAssign = 27

abbrev pub OpAndAssign : ℕ
OpAndAssign = 28

abbrev pub OpOrAssign : ℕ
OpOrAssign = 29

abbrev pub OpXorAssign : ℕ
OpXorAssign = 30

abbrev pub OpLShiftAssign : ℕ
OpLShiftAssign = 31

abbrev pub OpRShiftAssign : ℕ
OpRShiftAssign = 32

abbrev pub OpLT : ℕ
OpLT = 33

abbrev pub OpLE : ℕ
OpLE = 34

abbrev pub OpGT : ℕ
OpGT = 35

abbrev pub OpGE : ℕ
OpGE = 36

abbrev pub OpEQ : ℕ
OpEQ = 37

abbrev pub OpNE : ℕ
OpNE = 38

abbrev pub OpAssign : ℕ
OpAssign = 39

abbrev pub OpAccess : ℕ
OpAccess = 40

abbrev pub And : ℕ
And = 41

abbrev pub Or : ℕ
Or = 42

abbrev pub Not : ℕ
Not = 43

abbrev pub True : ℕ
True = 44

abbrev pub False : ℕ
False = 45

abbrev pub Nil : ℕ
Nil = 46

abbrev pub Let : ℕ
Let = 47

abbrev pub Var : ℕ
Var = 48

abbrev pub Local : ℕ
Local = 49

abbrev pub NonLocal : ℕ
NonLocal = 50

abbrev pub Del : ℕ
Del = 51

abbrev pub If : ℕ
If = 52

abbrev pub Then : ℕ
Then = 53

abbrev pub Elif : ℕ
Elif = 54

abbrev pub Else : ℕ
Else = 55

abbrev pub Begin : ℕ
Begin = 56

abbrev pub Loop : ℕ
Loop = 57

abbrev pub While : ℕ
While = 58

abbrev pub For : ℕ
For = 59

abbrev pub In : ℕ
In = 60

abbrev pub Do : ℕ
Do = 61

abbrev pub Continue : ℕ
Continue = 62

abbrev pub Break : ℕ
Break = 63

abbrev pub Return : ℕ
Return = 64

abbrev pub Fun : ℕ
Fun = 65

abbrev pub Class : ℕ
Class = 66

abbrev pub Assert : ℕ
Assert = 67

abbrev pub End : ℕ
End = 68

abbrev pub Identifier : ℕ
Identifier = 69

abbrev pub StringLiteral : ℕ
StringLiteral = 70

abbrev pub IntegerLiteral : ℕ
IntegerLiteral = 71

abbrev pub FloatLiteral : ℕ
FloatLiteral = 72

abbrev pub Label : ℕ
Label = 73

abbrev pub Comment : ℕ
Comment = 74

abbrev pub EOF : ℕ
EOF = 75

abbrev pub LexerError : ℕ
LexerError = 76
