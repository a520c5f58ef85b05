-- What is left to show of the members of the cycle of calls: it is shown in a module for each. Assumes nothing.
mod Arm
mod Atom
mod Begin
mod Binop
mod Block
mod Body
mod Call
mod Catch
mod Cond
mod Def
mod Dest
mod Dots
mod Each
mod Expr
mod Fun
mod Group
mod Index
mod Item
mod Jump
mod Key
mod Label
mod Lhs
mod List
mod Loops
mod Param
mod Part
mod Path
mod Prim
mod Rhs
mod Sig
mod Stmt
mod Sync
mod Table
mod Tail
mod Term
mod Tuple
mod Turn
mod Unop
mod Val
mod Whiles
use Rattle.cycle.proofs.+reading.Goals as goal

pub arm-returns-in_err-condition : goal.arm-returns-in_err-condition
arm-returns-in_err-condition = Rattle.cycle.proofs.+reading.Answers.Arm.arm-returns-in_err-condition

pub arm-returns-in_err-pos : goal.arm-returns-in_err-pos
arm-returns-in_err-pos = Rattle.cycle.proofs.+reading.Answers.Arm.arm-returns-in_err-pos

pub arm-block_under-requires : goal.arm-block_under-requires
arm-block_under-requires = Rattle.cycle.proofs.+reading.Answers.Arm.arm-block_under-requires

pub arm-returns-in_err-statements : goal.arm-returns-in_err-statements
arm-returns-in_err-statements = Rattle.cycle.proofs.+reading.Answers.Arm.arm-returns-in_err-statements

pub arm-returns : goal.arm-returns
arm-returns = Rattle.cycle.proofs.+reading.Answers.Arm.arm-returns

pub atom-returns-then-token-eq-OPEN_PAREN : goal.atom-returns-then-token-eq-OPEN_PAREN
atom-returns-then-token-eq-OPEN_PAREN = Rattle.cycle.proofs.+reading.Answers.Atom.atom-returns-then-token-eq-OPEN_PAREN

pub atom-returns : goal.atom-returns
atom-returns = Rattle.cycle.proofs.+reading.Answers.Atom.atom-returns

pub atom-returns-in_err-token : goal.atom-returns-in_err-token
atom-returns-in_err-token = Rattle.cycle.proofs.+reading.Answers.Atom.atom-returns-in_err-token

pub begin-returns : goal.begin-returns
begin-returns = Rattle.cycle.proofs.+reading.Answers.Begin.begin-returns

pub begin-returns-then-token-ne-BEGIN : goal.begin-returns-then-token-ne-BEGIN
begin-returns-then-token-ne-BEGIN = Rattle.cycle.proofs.+reading.Answers.Begin.begin-returns-then-token-ne-BEGIN

pub begin-returns-in_err-token : goal.begin-returns-in_err-token
begin-returns-in_err-token = Rattle.cycle.proofs.+reading.Answers.Begin.begin-returns-in_err-token

pub binop-returns-then-level-eq-PRECEDENCE_END : goal.binop-returns-then-level-eq-PRECEDENCE_END
binop-returns-then-level-eq-PRECEDENCE_END = Rattle.cycle.proofs.+reading.Answers.Binop.binop-returns-then-level-eq-PRECEDENCE_END

pub binop-returns-in_err-left : goal.binop-returns-in_err-left
binop-returns-in_err-left = Rattle.cycle.proofs.+reading.Answers.Binop.binop-returns-in_err-left

pub binop-loop-token-init : goal.binop-loop-token-init
binop-loop-token-init = Rattle.cycle.proofs.+reading.Answers.Binop.binop-loop-token-init

pub binop-look-requires : goal.binop-look-requires
binop-look-requires = Rattle.cycle.proofs.+reading.Answers.Binop.binop-look-requires

pub binop-returns-in_default : goal.binop-returns-in_default
binop-returns-in_default = Rattle.cycle.proofs.+reading.Answers.Binop.binop-returns-in_default

pub binop-returns-then-level-l : goal.binop-returns-then-level-l
binop-returns-then-level-l = Rattle.cycle.proofs.+reading.Answers.Binop.binop-returns-then-level-l

pub binop-binop-requires : goal.binop-binop-requires
binop-binop-requires = Rattle.cycle.proofs.+reading.Answers.Binop.binop-binop-requires

pub binop-emit-requires : goal.binop-emit-requires
binop-emit-requires = Rattle.cycle.proofs.+reading.Answers.Binop.binop-emit-requires

pub binop-loop-token-preserved : goal.binop-loop-token-preserved
binop-loop-token-preserved = Rattle.cycle.proofs.+reading.Answers.Binop.binop-loop-token-preserved

pub binop-returns-in_err-right : goal.binop-returns-in_err-right
binop-returns-in_err-right = Rattle.cycle.proofs.+reading.Answers.Binop.binop-returns-in_err-right

pub binop-returns-in_err-token : goal.binop-returns-in_err-token
binop-returns-in_err-token = Rattle.cycle.proofs.+reading.Answers.Binop.binop-returns-in_err-token

pub block-returns-in_err-statements : goal.block-returns-in_err-statements
block-returns-in_err-statements = Rattle.cycle.proofs.+reading.Answers.Block.block-returns-in_err-statements

pub block-block_under-requires : goal.block-block_under-requires
block-block_under-requires = Rattle.cycle.proofs.+reading.Answers.Block.block-block_under-requires

pub block-returns : goal.block-returns
block-returns = Rattle.cycle.proofs.+reading.Answers.Block.block-returns

pub body-returns-in_err-statements : goal.body-returns-in_err-statements
body-returns-in_err-statements = Rattle.cycle.proofs.+reading.Answers.Body.body-returns-in_err-statements

pub body-returns : goal.body-returns
body-returns = Rattle.cycle.proofs.+reading.Answers.Body.body-returns

pub call-returns-then-token-eq-CLOSE_PAREN : goal.call-returns-then-token-eq-CLOSE_PAREN
call-returns-then-token-eq-CLOSE_PAREN = Rattle.cycle.proofs.+reading.Answers.Call.call-returns-then-token-eq-CLOSE_PAREN

pub call-returns-in_err-inner : goal.call-returns-in_err-inner
call-returns-in_err-inner = Rattle.cycle.proofs.+reading.Answers.Call.call-returns-in_err-inner

pub call-returns-in_err-pos : goal.call-returns-in_err-pos
call-returns-in_err-pos = Rattle.cycle.proofs.+reading.Answers.Call.call-returns-in_err-pos

pub call-call_end-requires : goal.call-call_end-requires
call-call_end-requires = Rattle.cycle.proofs.+reading.Answers.Call.call-call_end-requires

pub call-returns : goal.call-returns
call-returns = Rattle.cycle.proofs.+reading.Answers.Call.call-returns

pub call-returns-in_err-token : goal.call-returns-in_err-token
call-returns-in_err-token = Rattle.cycle.proofs.+reading.Answers.Call.call-returns-in_err-token

pub catch-returns-then-f-eq-END_OF_TOKENS : goal.catch-returns-then-f-eq-END_OF_TOKENS
catch-returns-then-f-eq-END_OF_TOKENS = Rattle.cycle.proofs.+reading.Answers.Catch.catch-returns-then-f-eq-END_OF_TOKENS

pub catch-returns-in_err-try_push : goal.catch-returns-in_err-try_push
catch-returns-in_err-try_push = Rattle.cycle.proofs.+reading.Answers.Catch.catch-returns-in_err-try_push

pub catch-returns-in_err-pos : goal.catch-returns-in_err-pos
catch-returns-in_err-pos = Rattle.cycle.proofs.+reading.Answers.Catch.catch-returns-in_err-pos

pub catch-returns-in_err-synchronized : goal.catch-returns-in_err-synchronized
catch-returns-in_err-synchronized = Rattle.cycle.proofs.+reading.Answers.Catch.catch-returns-in_err-synchronized

pub catch-returns : goal.catch-returns
catch-returns = Rattle.cycle.proofs.+reading.Answers.Catch.catch-returns

pub cond-loop-branch-init : goal.cond-loop-branch-init
cond-loop-branch-init = Rattle.cycle.proofs.+reading.Answers.Cond.cond-loop-branch-init

pub cond-returns-in_err-branch : goal.cond-returns-in_err-branch
cond-returns-in_err-branch = Rattle.cycle.proofs.+reading.Answers.Cond.cond-returns-in_err-branch

pub cond-returns-in-68 : goal.cond-returns-in-68
cond-returns-in-68 = Rattle.cycle.proofs.+reading.Answers.Cond.cond-returns-in-68

pub cond-block_under-requires : goal.cond-block_under-requires
cond-block_under-requires = Rattle.cycle.proofs.+reading.Answers.Cond.cond-block_under-requires

pub cond-returns-in_err-otherwise-in-55 : goal.cond-returns-in_err-otherwise-in-55
cond-returns-in_err-otherwise-in-55 = Rattle.cycle.proofs.+reading.Answers.Cond.cond-returns-in_err-otherwise-in-55

pub cond-returns-in-55 : goal.cond-returns-in-55
cond-returns-in-55 = Rattle.cycle.proofs.+reading.Answers.Cond.cond-returns-in-55

pub cond-loop-branch-preserved : goal.cond-loop-branch-preserved
cond-loop-branch-preserved = Rattle.cycle.proofs.+reading.Answers.Cond.cond-loop-branch-preserved

pub cond-returns-in_err-token : goal.cond-returns-in_err-token
cond-returns-in_err-token = Rattle.cycle.proofs.+reading.Answers.Cond.cond-returns-in_err-token

pub def-returns-in_err-pos : goal.def-returns-in_err-pos
def-returns-in_err-pos = Rattle.cycle.proofs.+reading.Answers.Def.def-returns-in_err-pos

pub def-returns-in_err-parameters : goal.def-returns-in_err-parameters
def-returns-in_err-parameters = Rattle.cycle.proofs.+reading.Answers.Def.def-returns-in_err-parameters

pub def-returns-in_err-signature : goal.def-returns-in_err-signature
def-returns-in_err-signature = Rattle.cycle.proofs.+reading.Answers.Def.def-returns-in_err-signature

pub def-block_under-requires : goal.def-block_under-requires
def-block_under-requires = Rattle.cycle.proofs.+reading.Answers.Def.def-block_under-requires

pub def-returns-in_err-statements : goal.def-returns-in_err-statements
def-returns-in_err-statements = Rattle.cycle.proofs.+reading.Answers.Def.def-returns-in_err-statements

pub def-returns : goal.def-returns
def-returns = Rattle.cycle.proofs.+reading.Answers.Def.def-returns

pub dest-returns-in_err-receiver : goal.dest-returns-in_err-receiver
dest-returns-in_err-receiver = Rattle.cycle.proofs.+reading.Answers.Dest.dest-returns-in_err-receiver

pub dest-returns-in_err-target : goal.dest-returns-in_err-target
dest-returns-in_err-target = Rattle.cycle.proofs.+reading.Answers.Dest.dest-returns-in_err-target

pub dest-expect_pattern-requires : goal.dest-expect_pattern-requires
dest-expect_pattern-requires = Rattle.cycle.proofs.+reading.Answers.Dest.dest-expect_pattern-requires

pub dest-returns : goal.dest-returns
dest-returns = Rattle.cycle.proofs.+reading.Answers.Dest.dest-returns

pub dots-returns-then-token-eq-ELLIPSIS : goal.dots-returns-then-token-eq-ELLIPSIS
dots-returns-then-token-eq-ELLIPSIS = Rattle.cycle.proofs.+reading.Answers.Dots.dots-returns-then-token-eq-ELLIPSIS

pub dots-returns-in_err-operand : goal.dots-returns-in_err-operand
dots-returns-in_err-operand = Rattle.cycle.proofs.+reading.Answers.Dots.dots-returns-in_err-operand

pub dots-unpack_end-requires : goal.dots-unpack_end-requires
dots-unpack_end-requires = Rattle.cycle.proofs.+reading.Answers.Dots.dots-unpack_end-requires

pub dots-returns-then-other-eq-ELLIPSIS : goal.dots-returns-then-other-eq-ELLIPSIS
dots-returns-then-other-eq-ELLIPSIS = Rattle.cycle.proofs.+reading.Answers.Dots.dots-returns-then-other-eq-ELLIPSIS

pub dots-returns : goal.dots-returns
dots-returns = Rattle.cycle.proofs.+reading.Answers.Dots.dots-returns

pub dots-returns-in_err-other : goal.dots-returns-in_err-other
dots-returns-in_err-other = Rattle.cycle.proofs.+reading.Answers.Dots.dots-returns-in_err-other

pub dots-returns-in_err-token : goal.dots-returns-in_err-token
dots-returns-in_err-token = Rattle.cycle.proofs.+reading.Answers.Dots.dots-returns-in_err-token

pub each-returns-in_err-left : goal.each-returns-in_err-left
each-returns-in_err-left = Rattle.cycle.proofs.+reading.Answers.Each.each-returns-in_err-left

pub each-returns-in_err-pos : goal.each-returns-in_err-pos
each-returns-in_err-pos = Rattle.cycle.proofs.+reading.Answers.Each.each-returns-in_err-pos

pub each-returns : goal.each-returns
each-returns = Rattle.cycle.proofs.+reading.Answers.Each.each-returns

pub expr-returns-in_err-left : goal.expr-returns-in_err-left
expr-returns-in_err-left = Rattle.cycle.proofs.+reading.Answers.Expr.expr-returns-in_err-left

pub expr-returns-in_default : goal.expr-returns-in_default
expr-returns-in_default = Rattle.cycle.proofs.+reading.Answers.Expr.expr-returns-in_default

pub expr-expect_pattern-requires : goal.expr-expect_pattern-requires
expr-expect_pattern-requires = Rattle.cycle.proofs.+reading.Answers.Expr.expr-expect_pattern-requires

pub expr-returns-in_err-target : goal.expr-returns-in_err-target
expr-returns-in_err-target = Rattle.cycle.proofs.+reading.Answers.Expr.expr-returns-in_err-target

pub expr-rhs-requires : goal.expr-rhs-requires
expr-rhs-requires = Rattle.cycle.proofs.+reading.Answers.Expr.expr-rhs-requires

pub expr-returns-in_err-right : goal.expr-returns-in_err-right
expr-returns-in_err-right = Rattle.cycle.proofs.+reading.Answers.Expr.expr-returns-in_err-right

pub expr-overflow_add-value : goal.expr-overflow_add-value
expr-overflow_add-value = Rattle.cycle.proofs.+reading.Answers.Expr.expr-overflow_add-value

pub expr-emit-requires : goal.expr-emit-requires
expr-emit-requires = Rattle.cycle.proofs.+reading.Answers.Expr.expr-emit-requires

pub expr-returns : goal.expr-returns
expr-returns = Rattle.cycle.proofs.+reading.Answers.Expr.expr-returns

pub expr-returns-in_err-token : goal.expr-returns-in_err-token
expr-returns-in_err-token = Rattle.cycle.proofs.+reading.Answers.Expr.expr-returns-in_err-token

pub expr-returns-in_err-keyword : goal.expr-returns-in_err-keyword
expr-returns-in_err-keyword = Rattle.cycle.proofs.+reading.Answers.Expr.expr-returns-in_err-keyword

pub fun-returns-then-token-eq-OPEN_PAREN : goal.fun-returns-then-token-eq-OPEN_PAREN
fun-returns-then-token-eq-OPEN_PAREN = Rattle.cycle.proofs.+reading.Answers.Fun.fun-returns-then-token-eq-OPEN_PAREN

pub fun-returns-in_err-target : goal.fun-returns-in_err-target
fun-returns-in_err-target = Rattle.cycle.proofs.+reading.Answers.Fun.fun-returns-in_err-target

pub fun-target_name-name-requires : goal.fun-target_name-name-requires
fun-target_name-name-requires = Rattle.cycle.proofs.+reading.Answers.Fun.fun-target_name-name-requires

pub fun-returns-in_err-function : goal.fun-returns-in_err-function
fun-returns-in_err-function = Rattle.cycle.proofs.+reading.Answers.Fun.fun-returns-in_err-function

pub fun-returns : goal.fun-returns
fun-returns = Rattle.cycle.proofs.+reading.Answers.Fun.fun-returns

pub fun-returns-in_err-token : goal.fun-returns-in_err-token
fun-returns-in_err-token = Rattle.cycle.proofs.+reading.Answers.Fun.fun-returns-in_err-token

pub group-returns-then-token-eq-CLOSE_PAREN : goal.group-returns-then-token-eq-CLOSE_PAREN
group-returns-then-token-eq-CLOSE_PAREN = Rattle.cycle.proofs.+reading.Answers.Group.group-returns-then-token-eq-CLOSE_PAREN

pub group-returns-in_err-inner : goal.group-returns-in_err-inner
group-returns-in_err-inner = Rattle.cycle.proofs.+reading.Answers.Group.group-returns-in_err-inner

pub group-returns-in_err-pos : goal.group-returns-in_err-pos
group-returns-in_err-pos = Rattle.cycle.proofs.+reading.Answers.Group.group-returns-in_err-pos

pub group-group_end-requires : goal.group-group_end-requires
group-group_end-requires = Rattle.cycle.proofs.+reading.Answers.Group.group-group_end-requires

pub group-returns : goal.group-returns
group-returns = Rattle.cycle.proofs.+reading.Answers.Group.group-returns

pub group-returns-in_err-modifier : goal.group-returns-in_err-modifier
group-returns-in_err-modifier = Rattle.cycle.proofs.+reading.Answers.Group.group-returns-in_err-modifier

pub group-returns-in_err-token : goal.group-returns-in_err-token
group-returns-in_err-token = Rattle.cycle.proofs.+reading.Answers.Group.group-returns-in_err-token

pub index-returns-in_err-inner : goal.index-returns-in_err-inner
index-returns-in_err-inner = Rattle.cycle.proofs.+reading.Answers.Index.index-returns-in_err-inner

pub index-returns-in_err-pos : goal.index-returns-in_err-pos
index-returns-in_err-pos = Rattle.cycle.proofs.+reading.Answers.Index.index-returns-in_err-pos

pub index-returns : goal.index-returns
index-returns = Rattle.cycle.proofs.+reading.Answers.Index.index-returns

pub item-returns-in_err-field : goal.item-returns-in_err-field
item-returns-in_err-field = Rattle.cycle.proofs.+reading.Answers.Item.item-returns-in_err-field

pub item-returns-in_err-pos : goal.item-returns-in_err-pos
item-returns-in_err-pos = Rattle.cycle.proofs.+reading.Answers.Item.item-returns-in_err-pos

pub item-returns-in_err-value : goal.item-returns-in_err-value
item-returns-in_err-value = Rattle.cycle.proofs.+reading.Answers.Item.item-returns-in_err-value

pub item-returns : goal.item-returns
item-returns = Rattle.cycle.proofs.+reading.Answers.Item.item-returns

pub jump-returns-in_err-label-in-Continue : goal.jump-returns-in_err-label-in-Continue
jump-returns-in_err-label-in-Continue = Rattle.cycle.proofs.+reading.Answers.Jump.jump-returns-in_err-label-in-Continue

pub jump-returns-in_ok-label-in-Continue : goal.jump-returns-in_ok-label-in-Continue
jump-returns-in_ok-label-in-Continue = Rattle.cycle.proofs.+reading.Answers.Jump.jump-returns-in_ok-label-in-Continue

pub jump-returns-in_err-label-in-Break : goal.jump-returns-in_err-label-in-Break
jump-returns-in_err-label-in-Break = Rattle.cycle.proofs.+reading.Answers.Jump.jump-returns-in_err-label-in-Break

pub jump-returns-in_err-value-in-Break : goal.jump-returns-in_err-value-in-Break
jump-returns-in_err-value-in-Break = Rattle.cycle.proofs.+reading.Answers.Jump.jump-returns-in_err-value-in-Break

pub jump-returns-in_ok-value-in-Break : goal.jump-returns-in_ok-value-in-Break
jump-returns-in_ok-value-in-Break = Rattle.cycle.proofs.+reading.Answers.Jump.jump-returns-in_ok-value-in-Break

pub jump-returns-in_err-value-in-Return : goal.jump-returns-in_err-value-in-Return
jump-returns-in_err-value-in-Return = Rattle.cycle.proofs.+reading.Answers.Jump.jump-returns-in_err-value-in-Return

pub jump-returns-in_ok-value-in-Return : goal.jump-returns-in_ok-value-in-Return
jump-returns-in_ok-value-in-Return = Rattle.cycle.proofs.+reading.Answers.Jump.jump-returns-in_ok-value-in-Return

pub key-returns-then-token-ne-OPEN_SQUARE : goal.key-returns-then-token-ne-OPEN_SQUARE
key-returns-then-token-ne-OPEN_SQUARE = Rattle.cycle.proofs.+reading.Answers.Key.key-returns-then-token-ne-OPEN_SQUARE

pub key-returns-in_err-place : goal.key-returns-in_err-place
key-returns-in_err-place = Rattle.cycle.proofs.+reading.Answers.Key.key-returns-in_err-place

pub key-returns : goal.key-returns
key-returns = Rattle.cycle.proofs.+reading.Answers.Key.key-returns

pub key-returns-in_err-token : goal.key-returns-in_err-token
key-returns-in_err-token = Rattle.cycle.proofs.+reading.Answers.Key.key-returns-in_err-token

pub label-returns-in-57 : goal.label-returns-in-57
label-returns-in-57 = Rattle.cycle.proofs.+reading.Answers.Label.label-returns-in-57

pub label-returns-in-58 : goal.label-returns-in-58
label-returns-in-58 = Rattle.cycle.proofs.+reading.Answers.Label.label-returns-in-58

pub label-returns-in-59 : goal.label-returns-in-59
label-returns-in-59 = Rattle.cycle.proofs.+reading.Answers.Label.label-returns-in-59

pub label-returns-in_default : goal.label-returns-in_default
label-returns-in_default = Rattle.cycle.proofs.+reading.Answers.Label.label-returns-in_default

pub label-returns-in_err-token : goal.label-returns-in_err-token
label-returns-in_err-token = Rattle.cycle.proofs.+reading.Answers.Label.label-returns-in_err-token

pub lhs-returns-in_err-left : goal.lhs-returns-in_err-left
lhs-returns-in_err-left = Rattle.cycle.proofs.+reading.Answers.Lhs.lhs-returns-in_err-left

pub lhs-expect_pattern-requires : goal.lhs-expect_pattern-requires
lhs-expect_pattern-requires = Rattle.cycle.proofs.+reading.Answers.Lhs.lhs-expect_pattern-requires

pub lhs-returns-in_err-target : goal.lhs-returns-in_err-target
lhs-returns-in_err-target = Rattle.cycle.proofs.+reading.Answers.Lhs.lhs-returns-in_err-target

pub lhs-modified-requires : goal.lhs-modified-requires
lhs-modified-requires = Rattle.cycle.proofs.+reading.Answers.Lhs.lhs-modified-requires

pub lhs-returns : goal.lhs-returns
lhs-returns = Rattle.cycle.proofs.+reading.Answers.Lhs.lhs-returns

pub lhs-returns-in_err-keyword : goal.lhs-returns-in_err-keyword
lhs-returns-in_err-keyword = Rattle.cycle.proofs.+reading.Answers.Lhs.lhs-returns-in_err-keyword

pub list-returns-then-depth-eq0 : goal.list-returns-then-depth-eq0
list-returns-then-depth-eq0 = Rattle.cycle.proofs.+reading.Answers.List.list-returns-then-depth-eq0

pub list-loop-token-init : goal.list-loop-token-init
list-loop-token-init = Rattle.cycle.proofs.+reading.Answers.List.list-loop-token-init

pub list-loop-token-preserved-then-token-eq-SEMICOLON : goal.list-loop-token-preserved-then-token-eq-SEMICOLON
list-loop-token-preserved-then-token-eq-SEMICOLON = Rattle.cycle.proofs.+reading.Answers.List.list-loop-token-preserved-then-token-eq-SEMICOLON

pub list-returns-then-ends : goal.list-returns-then-ends
list-returns-then-ends = Rattle.cycle.proofs.+reading.Answers.List.list-returns-then-ends

pub list-mark-suite-requires : goal.list-mark-suite-requires
list-mark-suite-requires = Rattle.cycle.proofs.+reading.Answers.List.list-mark-suite-requires

pub list-loop-token-preserved-in-Stmt : goal.list-loop-token-preserved-in-Stmt
list-loop-token-preserved-in-Stmt = Rattle.cycle.proofs.+reading.Answers.List.list-loop-token-preserved-in-Stmt

pub list-returns-in-Control : goal.list-returns-in-Control
list-returns-in-Control = Rattle.cycle.proofs.+reading.Answers.List.list-returns-in-Control

pub list-loop-token-preserved : goal.list-loop-token-preserved
list-loop-token-preserved = Rattle.cycle.proofs.+reading.Answers.List.list-loop-token-preserved

pub list-returns-in_err-next : goal.list-returns-in_err-next
list-returns-in_err-next = Rattle.cycle.proofs.+reading.Answers.List.list-returns-in_err-next

pub list-returns-in_err-token : goal.list-returns-in_err-token
list-returns-in_err-token = Rattle.cycle.proofs.+reading.Answers.List.list-returns-in_err-token

pub loops-returns-in_err-statements : goal.loops-returns-in_err-statements
loops-returns-in_err-statements = Rattle.cycle.proofs.+reading.Answers.Loops.loops-returns-in_err-statements

pub loops-list_under-requires : goal.loops-list_under-requires
loops-list_under-requires = Rattle.cycle.proofs.+reading.Answers.Loops.loops-list_under-requires

pub loops-returns : goal.loops-returns
loops-returns = Rattle.cycle.proofs.+reading.Answers.Loops.loops-returns

pub param-returns-in-Required : goal.param-returns-in-Required
param-returns-in-Required = Rattle.cycle.proofs.+reading.Answers.Param.param-returns-in-Required

pub param-returns-in-Variadic : goal.param-returns-in-Variadic
param-returns-in-Variadic = Rattle.cycle.proofs.+reading.Answers.Param.param-returns-in-Variadic

pub param-returns-in_ok-value-in-Default : goal.param-returns-in_ok-value-in-Default
param-returns-in_ok-value-in-Default = Rattle.cycle.proofs.+reading.Answers.Param.param-returns-in_ok-value-in-Default

pub param-returns-in_err-value-in-Default : goal.param-returns-in_err-value-in-Default
param-returns-in_err-value-in-Default = Rattle.cycle.proofs.+reading.Answers.Param.param-returns-in_err-value-in-Default

pub param-returns-in_err-pos : goal.param-returns-in_err-pos
param-returns-in_err-pos = Rattle.cycle.proofs.+reading.Answers.Param.param-returns-in_err-pos

pub part-returns-in_err-place-in-4 : goal.part-returns-in_err-place-in-4
part-returns-in_err-place-in-4 = Rattle.cycle.proofs.+reading.Answers.Part.part-returns-in_err-place-in-4

pub part-returns-in_err-items-in_default : goal.part-returns-in_err-items-in_default
part-returns-in_err-items-in_default = Rattle.cycle.proofs.+reading.Answers.Part.part-returns-in_err-items-in_default

pub part-returns-in-40 : goal.part-returns-in-40
part-returns-in-40 = Rattle.cycle.proofs.+reading.Answers.Part.part-returns-in-40

pub part-returns-in_ok-place-in-4 : goal.part-returns-in_ok-place-in-4
part-returns-in_ok-place-in-4 = Rattle.cycle.proofs.+reading.Answers.Part.part-returns-in_ok-place-in-4

pub part-returns-in-0 : goal.part-returns-in-0
part-returns-in-0 = Rattle.cycle.proofs.+reading.Answers.Part.part-returns-in-0

pub part-returns-in_ok-items-in_default : goal.part-returns-in_ok-items-in_default
part-returns-in_ok-items-in_default = Rattle.cycle.proofs.+reading.Answers.Part.part-returns-in_ok-items-in_default

pub path-loop-token-init : goal.path-loop-token-init
path-loop-token-init = Rattle.cycle.proofs.+reading.Answers.Path.path-loop-token-init

pub path-returns-then-not-continues : goal.path-returns-then-not-continues
path-returns-then-not-continues = Rattle.cycle.proofs.+reading.Answers.Path.path-returns-then-not-continues

pub path-loop-token-preserved : goal.path-loop-token-preserved
path-loop-token-preserved = Rattle.cycle.proofs.+reading.Answers.Path.path-loop-token-preserved

pub path-returns-in_err-end : goal.path-returns-in_err-end
path-returns-in_err-end = Rattle.cycle.proofs.+reading.Answers.Path.path-returns-in_err-end

pub path-returns-in_err-token : goal.path-returns-in_err-token
path-returns-in_err-token = Rattle.cycle.proofs.+reading.Answers.Path.path-returns-in_err-token

pub prim-returns-in_err-receiver : goal.prim-returns-in_err-receiver
prim-returns-in_err-receiver = Rattle.cycle.proofs.+reading.Answers.Prim.prim-returns-in_err-receiver

pub prim-returns : goal.prim-returns
prim-returns = Rattle.cycle.proofs.+reading.Answers.Prim.prim-returns

pub rhs-returns-then-depth-eq0 : goal.rhs-returns-then-depth-eq0
rhs-returns-then-depth-eq0 = Rattle.cycle.proofs.+reading.Answers.Rhs.rhs-returns-then-depth-eq0

pub rhs-returns : goal.rhs-returns
rhs-returns = Rattle.cycle.proofs.+reading.Answers.Rhs.rhs-returns

pub sig-loop-token-init : goal.sig-loop-token-init
sig-loop-token-init = Rattle.cycle.proofs.+reading.Answers.Sig.sig-loop-token-init

pub sig-returns-then-token-eq-CLOSE_PAREN : goal.sig-returns-then-token-eq-CLOSE_PAREN
sig-returns-then-token-eq-CLOSE_PAREN = Rattle.cycle.proofs.+reading.Answers.Sig.sig-returns-then-token-eq-CLOSE_PAREN

pub sig-loop-token-smaller : goal.sig-loop-token-smaller
sig-loop-token-smaller = Rattle.cycle.proofs.+reading.Answers.Sig.sig-loop-token-smaller

pub sig-loop-token-preserved : goal.sig-loop-token-preserved
sig-loop-token-preserved = Rattle.cycle.proofs.+reading.Answers.Sig.sig-loop-token-preserved

pub sig-returns-in_err-one : goal.sig-returns-in_err-one
sig-returns-in_err-one = Rattle.cycle.proofs.+reading.Answers.Sig.sig-returns-in_err-one

pub sig-returns-in_err-all : goal.sig-returns-in_err-all
sig-returns-in_err-all = Rattle.cycle.proofs.+reading.Answers.Sig.sig-returns-in_err-all

pub sig-returns-in_err-token : goal.sig-returns-in_err-token
sig-returns-in_err-token = Rattle.cycle.proofs.+reading.Answers.Sig.sig-returns-in_err-token

pub stmt-returns-in_err-condition-in-67 : goal.stmt-returns-in_err-condition-in-67
stmt-returns-in_err-condition-in-67 = Rattle.cycle.proofs.+reading.Answers.Stmt.stmt-returns-in_err-condition-in-67

pub stmt-returns-then-is_control : goal.stmt-returns-then-is_control
stmt-returns-then-is_control = Rattle.cycle.proofs.+reading.Answers.Stmt.stmt-returns-then-is_control

pub stmt-returns-in_err-expression-in_default : goal.stmt-returns-in_err-expression-in_default
stmt-returns-in_err-expression-in_default = Rattle.cycle.proofs.+reading.Answers.Stmt.stmt-returns-in_err-expression-in_default

pub stmt-expression_end-requires : goal.stmt-expression_end-requires
stmt-expression_end-requires = Rattle.cycle.proofs.+reading.Answers.Stmt.stmt-expression_end-requires

pub stmt-returns-in-57 : goal.stmt-returns-in-57
stmt-returns-in-57 = Rattle.cycle.proofs.+reading.Answers.Stmt.stmt-returns-in-57

pub stmt-returns-in-58 : goal.stmt-returns-in-58
stmt-returns-in-58 = Rattle.cycle.proofs.+reading.Answers.Stmt.stmt-returns-in-58

pub stmt-returns-in-59 : goal.stmt-returns-in-59
stmt-returns-in-59 = Rattle.cycle.proofs.+reading.Answers.Stmt.stmt-returns-in-59

pub stmt-returns-in-73 : goal.stmt-returns-in-73
stmt-returns-in-73 = Rattle.cycle.proofs.+reading.Answers.Stmt.stmt-returns-in-73

pub stmt-returns-in_ok-condition-in-67 : goal.stmt-returns-in_ok-condition-in-67
stmt-returns-in_ok-condition-in-67 = Rattle.cycle.proofs.+reading.Answers.Stmt.stmt-returns-in_ok-condition-in-67

pub stmt-returns-in_ok-expression-in_default : goal.stmt-returns-in_ok-expression-in_default
stmt-returns-in_ok-expression-in_default = Rattle.cycle.proofs.+reading.Answers.Stmt.stmt-returns-in_ok-expression-in_default

pub stmt-returns-in_err-token : goal.stmt-returns-in_err-token
stmt-returns-in_err-token = Rattle.cycle.proofs.+reading.Answers.Stmt.stmt-returns-in_err-token

pub sync-loop-token-init : goal.sync-loop-token-init
sync-loop-token-init = Rattle.cycle.proofs.+reading.Answers.Sync.sync-loop-token-init

pub sync-returns-then-halts : goal.sync-returns-then-halts
sync-returns-then-halts = Rattle.cycle.proofs.+reading.Answers.Sync.sync-returns-then-halts

pub sync-returns-in-Ok-expr : goal.sync-returns-in-Ok-expr
sync-returns-in-Ok-expr = Rattle.cycle.proofs.+reading.Answers.Sync.sync-returns-in-Ok-expr

pub sync-loop-token-preserved-in-Err-Fail-expr : goal.sync-loop-token-preserved-in-Err-Fail-expr
sync-loop-token-preserved-in-Err-Fail-expr = Rattle.cycle.proofs.+reading.Answers.Sync.sync-loop-token-preserved-in-Err-Fail-expr

pub sync-returns-in-Err-Stop-expr : goal.sync-returns-in-Err-Stop-expr
sync-returns-in-Err-Stop-expr = Rattle.cycle.proofs.+reading.Answers.Sync.sync-returns-in-Err-Stop-expr

pub sync-returns-then-failure-eq-END_OF_TOKENS : goal.sync-returns-then-failure-eq-END_OF_TOKENS
sync-returns-then-failure-eq-END_OF_TOKENS = Rattle.cycle.proofs.+reading.Answers.Sync.sync-returns-then-failure-eq-END_OF_TOKENS

pub sync-loop-token-preserved : goal.sync-loop-token-preserved
sync-loop-token-preserved = Rattle.cycle.proofs.+reading.Answers.Sync.sync-loop-token-preserved

pub sync-returns-in-Err-Stop : goal.sync-returns-in-Err-Stop
sync-returns-in-Err-Stop = Rattle.cycle.proofs.+reading.Answers.Sync.sync-returns-in-Err-Stop

pub table-loop-token-init : goal.table-loop-token-init
table-loop-token-init = Rattle.cycle.proofs.+reading.Answers.Table.table-loop-token-init

pub table-returns-then-token-eq-CLOSE_BRACE : goal.table-returns-then-token-eq-CLOSE_BRACE
table-returns-then-token-eq-CLOSE_BRACE = Rattle.cycle.proofs.+reading.Answers.Table.table-returns-then-token-eq-CLOSE_BRACE

pub table-returns-in_err-one : goal.table-returns-in_err-one
table-returns-in_err-one = Rattle.cycle.proofs.+reading.Answers.Table.table-returns-in_err-one

pub table-returns-then-closing-eq1 : goal.table-returns-then-closing-eq1
table-returns-then-closing-eq1 = Rattle.cycle.proofs.+reading.Answers.Table.table-returns-then-closing-eq1

pub table-loop-token-preserved : goal.table-loop-token-preserved
table-loop-token-preserved = Rattle.cycle.proofs.+reading.Answers.Table.table-loop-token-preserved

pub table-returns-in_err-closing : goal.table-returns-in_err-closing
table-returns-in_err-closing = Rattle.cycle.proofs.+reading.Answers.Table.table-returns-in_err-closing

pub table-returns-in_err-token : goal.table-returns-in_err-token
table-returns-in_err-token = Rattle.cycle.proofs.+reading.Answers.Table.table-returns-in_err-token

pub tail-loop-token-init : goal.tail-loop-token-init
tail-loop-token-init = Rattle.cycle.proofs.+reading.Answers.Tail.tail-loop-token-init

pub tail-returns-then-token-ne-COMMA : goal.tail-returns-then-token-ne-COMMA
tail-returns-then-token-ne-COMMA = Rattle.cycle.proofs.+reading.Answers.Tail.tail-returns-then-token-ne-COMMA

pub tail-returns-then-other-eq-CLOSE_PAREN : goal.tail-returns-then-other-eq-CLOSE_PAREN
tail-returns-then-other-eq-CLOSE_PAREN = Rattle.cycle.proofs.+reading.Answers.Tail.tail-returns-then-other-eq-CLOSE_PAREN

pub tail-returns-in_err-end : goal.tail-returns-in_err-end
tail-returns-in_err-end = Rattle.cycle.proofs.+reading.Answers.Tail.tail-returns-in_err-end

pub tail-loop-token-preserved : goal.tail-loop-token-preserved
tail-loop-token-preserved = Rattle.cycle.proofs.+reading.Answers.Tail.tail-loop-token-preserved

pub tail-returns-in_err-other : goal.tail-returns-in_err-other
tail-returns-in_err-other = Rattle.cycle.proofs.+reading.Answers.Tail.tail-returns-in_err-other

pub tail-returns-in_err-token : goal.tail-returns-in_err-token
tail-returns-in_err-token = Rattle.cycle.proofs.+reading.Answers.Tail.tail-returns-in_err-token

pub term-returns-in_err-items-in-2 : goal.term-returns-in_err-items-in-2
term-returns-in_err-items-in-2 = Rattle.cycle.proofs.+reading.Answers.Term.term-returns-in_err-items-in-2

pub term-returns-in-66 : goal.term-returns-in-66
term-returns-in-66 = Rattle.cycle.proofs.+reading.Answers.Term.term-returns-in-66

pub term-returns-in-65 : goal.term-returns-in-65
term-returns-in-65 = Rattle.cycle.proofs.+reading.Answers.Term.term-returns-in-65

pub term-returns-in-52 : goal.term-returns-in-52
term-returns-in-52 = Rattle.cycle.proofs.+reading.Answers.Term.term-returns-in-52

pub term-returns-in-56 : goal.term-returns-in-56
term-returns-in-56 = Rattle.cycle.proofs.+reading.Answers.Term.term-returns-in-56

pub term-returns-in_ok-items-in-2 : goal.term-returns-in_ok-items-in-2
term-returns-in_ok-items-in-2 = Rattle.cycle.proofs.+reading.Answers.Term.term-returns-in_ok-items-in-2

pub term-returns-in-73 : goal.term-returns-in-73
term-returns-in-73 = Rattle.cycle.proofs.+reading.Answers.Term.term-returns-in-73

pub term-returns-in_default : goal.term-returns-in_default
term-returns-in_default = Rattle.cycle.proofs.+reading.Answers.Term.term-returns-in_default

pub term-returns-in_err-token : goal.term-returns-in_err-token
term-returns-in_err-token = Rattle.cycle.proofs.+reading.Answers.Term.term-returns-in_err-token

pub tuple-returns-in_err-first : goal.tuple-returns-in_err-first
tuple-returns-in_err-first = Rattle.cycle.proofs.+reading.Answers.Tuple.tuple-returns-in_err-first

pub tuple-returns-then-token-eq-COMMA : goal.tuple-returns-then-token-eq-COMMA
tuple-returns-then-token-eq-COMMA = Rattle.cycle.proofs.+reading.Answers.Tuple.tuple-returns-then-token-eq-COMMA

pub tuple-returns : goal.tuple-returns
tuple-returns = Rattle.cycle.proofs.+reading.Answers.Tuple.tuple-returns

pub tuple-returns-in_err-token : goal.tuple-returns-in_err-token
tuple-returns-in_err-token = Rattle.cycle.proofs.+reading.Answers.Tuple.tuple-returns-in_err-token

pub turn-returns-in_err-pos-in-Ok : goal.turn-returns-in_err-pos-in-Ok
turn-returns-in_err-pos-in-Ok = Rattle.cycle.proofs.+reading.Answers.Turn.turn-returns-in_err-pos-in-Ok

pub turn-returns-in_ok-pos-in-Ok : goal.turn-returns-in_ok-pos-in-Ok
turn-returns-in_ok-pos-in-Ok = Rattle.cycle.proofs.+reading.Answers.Turn.turn-returns-in_ok-pos-in-Ok

pub turn-returns-in_err-pos-in-Err-Fail : goal.turn-returns-in_err-pos-in-Err-Fail
turn-returns-in_err-pos-in-Err-Fail = Rattle.cycle.proofs.+reading.Answers.Turn.turn-returns-in_err-pos-in-Err-Fail

pub turn-returns-in_ok-pos-in-Err-Fail : goal.turn-returns-in_ok-pos-in-Err-Fail
turn-returns-in_ok-pos-in-Err-Fail = Rattle.cycle.proofs.+reading.Answers.Turn.turn-returns-in_ok-pos-in-Err-Fail

pub turn-returns-in-Err-Stop : goal.turn-returns-in-Err-Stop
turn-returns-in-Err-Stop = Rattle.cycle.proofs.+reading.Answers.Turn.turn-returns-in-Err-Stop

pub turn-returns-in_err-pos-in-Err-Fail-stmt : goal.turn-returns-in_err-pos-in-Err-Fail-stmt
turn-returns-in_err-pos-in-Err-Fail-stmt = Rattle.cycle.proofs.+reading.Answers.Turn.turn-returns-in_err-pos-in-Err-Fail-stmt

pub turn-returns-in-Ok-stmt : goal.turn-returns-in-Ok-stmt
turn-returns-in-Ok-stmt = Rattle.cycle.proofs.+reading.Answers.Turn.turn-returns-in-Ok-stmt

pub turn-returns-in_ok-pos-in-Err-Fail-stmt : goal.turn-returns-in_ok-pos-in-Err-Fail-stmt
turn-returns-in_ok-pos-in-Err-Fail-stmt = Rattle.cycle.proofs.+reading.Answers.Turn.turn-returns-in_ok-pos-in-Err-Fail-stmt

pub turn-returns-in-Err-Stop-stmt : goal.turn-returns-in-Err-Stop-stmt
turn-returns-in-Err-Stop-stmt = Rattle.cycle.proofs.+reading.Answers.Turn.turn-returns-in-Err-Stop-stmt

pub unop-returns-then-depth-eq0 : goal.unop-returns-then-depth-eq0
unop-returns-then-depth-eq0 = Rattle.cycle.proofs.+reading.Answers.Unop.unop-returns-then-depth-eq0

pub unop-returns-in_default : goal.unop-returns-in_default
unop-returns-in_default = Rattle.cycle.proofs.+reading.Answers.Unop.unop-returns-in_default

pub unop-returns-in_err-operand : goal.unop-returns-in_err-operand
unop-returns-in_err-operand = Rattle.cycle.proofs.+reading.Answers.Unop.unop-returns-in_err-operand

pub unop-returns : goal.unop-returns
unop-returns = Rattle.cycle.proofs.+reading.Answers.Unop.unop-returns

pub unop-returns-in_err-token : goal.unop-returns-in_err-token
unop-returns-in_err-token = Rattle.cycle.proofs.+reading.Answers.Unop.unop-returns-in_err-token

pub val-returns-then-ends_control : goal.val-returns-then-ends_control
val-returns-then-ends_control = Rattle.cycle.proofs.+reading.Answers.Val.val-returns-then-ends_control

pub val-returns : goal.val-returns
val-returns = Rattle.cycle.proofs.+reading.Answers.Val.val-returns

pub val-returns-in_err-token : goal.val-returns-in_err-token
val-returns-in_err-token = Rattle.cycle.proofs.+reading.Answers.Val.val-returns-in_err-token

pub whiles-returns-in_err-over : goal.whiles-returns-in_err-over
whiles-returns-in_err-over = Rattle.cycle.proofs.+reading.Answers.Whiles.whiles-returns-in_err-over

pub whiles-returns-in_err-pos : goal.whiles-returns-in_err-pos
whiles-returns-in_err-pos = Rattle.cycle.proofs.+reading.Answers.Whiles.whiles-returns-in_err-pos

pub whiles-list_under-requires : goal.whiles-list_under-requires
whiles-list_under-requires = Rattle.cycle.proofs.+reading.Answers.Whiles.whiles-list_under-requires

pub whiles-returns-in_err-statements : goal.whiles-returns-in_err-statements
whiles-returns-in_err-statements = Rattle.cycle.proofs.+reading.Answers.Whiles.whiles-returns-in_err-statements

pub whiles-returns : goal.whiles-returns
whiles-returns = Rattle.cycle.proofs.+reading.Answers.Whiles.whiles-returns
