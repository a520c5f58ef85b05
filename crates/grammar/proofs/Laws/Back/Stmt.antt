-- The words of statements and statement lists read back, over operands and lists that read back at the depth d. Assumes nothing.
use Rattle.std.specs.Prelude.{◌≡◌, Bool, true, false, ◌&&◌, eqb, length}
use Rattle.std.proofs.Math.Path.{refl, ap}
use Rattle.std.proofs.Common.{◌∙◌, sym, le_refl, arith}
use mathlib.Core.List.{List, ◌∷◌}
use Prim.Native.Nat.{ℕ, zero, suc, ◌≤◌, max}
use Rattle.token.specs.Kind
use Rattle.token.specs.declared.Token.{Token}
use Rattle.tree.specs.Tree.{Tree, Forest, snoc}
use Rattle.tree.specs.Node
use Rattle.grammar.specs.Reading.Result.{Error, Res, ok, then}
use Rattle.grammar.specs.Reading.Look.{look, try_label}
use Rattle.grammar.specs.Reading.Expr.{Stmts}
use Rattle.grammar.specs.Reading.Block as Block
use Rattle.grammar.specs.Reading.Stmt.{loop, while_loop, lvalue_list, for_loop, stmt_label, stmt, ends, control_value, is_control, stmt_list_of, control_flow, control_last, stmts}
use Rattle.grammar.specs.Reading.Depth.{at_depth}
use Rattle.grammar.specs.Canonical.Write.{own, label, as_suite, write, writes}
use Rattle.grammar.specs.Canonical.Need.{most, need, needs}
use Rattle.grammar.specs.Canonical.Valid as Valid
use Rattle.grammar.specs.Canonical.Valid.{Valid, Valids, Pattern, IsName, IsLabel, no_label, a_label, ex, jump, control, body, v_continue, v_break, v_break_value, v_break_label, v_return, v_return_value, v_no_control, v_control, v_body, v_expression, v_loop, v_while, v_for, v_assert, v_none, v_more}
use Rattle.grammar.proofs.Laws.Back.Steps.{Needs, Fits, fits, word, done, exactly, enough, both, weigh, lands, max_assoc, then_ok, then_is, either_is, if_yes, if_no, sees, expects, converts}
use Rattle.grammar.proofs.Laws.Length.{tokens_length}
use Rattle.grammar.proofs.Laws.Back.Follow as Follow
use Rattle.grammar.proofs.Laws.Back.Follow.{end_rank, Follows, weaker}
use Rattle.grammar.proofs.Laws.Back.Starts.{Starts, up, first_is, isnt, no_keyword, pattern_starts, ex_starts, stmt_starts}
use Rattle.grammar.proofs.Laws.Back.Snoc.{join, join_snoc, join_none, most_more}
use Rattle.grammar.proofs.Laws.Back.Patterns.{as_expr}
use Rattle.grammar.proofs.Laws.Back.Expr.{Reads, Ended, at_end, at_elif, at_else, after, pattern_back}
use Rattle.grammar.proofs.Laws.Back.Given.{ex_back}

-- the end of a list is seen
record End (end k : ℕ) : Type 0 where
  of_list : ends end k ≡ true
  of_value : ends 1 k ≡ true
  no_semicolon : eqb k Kind.Semicolon ≡ false
  not_label : eqb k Kind.Label ≡ false

end_first : {A : Type 0} {end : ℕ} {r : List ℕ} (q : List Error) (go : Token → List Error → List ℕ → Res A) {n d : ℕ} {y : Res A}
    → Ended end r → ((k : ℕ) (s : List ℕ) → End end k → Needs n d (go (word k 0) q s) y) → Needs n d (then q (look q r) go) y
end_first q go at_end f = sees q _ go (fits refl) (f _ _ (record { of_list = refl; of_value = refl; no_semicolon = refl; not_label = refl }))
end_first q go at_elif f = sees q _ go (fits refl) (f _ _ (record { of_list = refl; of_value = refl; no_semicolon = refl; not_label = refl }))
end_first q go at_else f = sees q _ go (fits refl) (f _ _ (record { of_list = refl; of_value = refl; no_semicolon = refl; not_label = refl }))

end_follows : {end : ℕ} {r : List ℕ} → Ended end r → Follows end_rank r
end_follows at_end = Follow.ends refl
end_follows at_elif = Follow.ends refl
end_follows at_else = Follow.ends refl

end_length : {end : ℕ} {r : List ℕ} → Ended end r → 2 ≤ length r
end_length at_end = omega arith
end_length at_elif = omega arith
end_length at_else = omega arith

-- no end of a list
no_end : (end k : ℕ) → eqb k Kind.End ≡ false → eqb k Kind.Elif ≡ false → eqb k Kind.Else ≡ false → ends end k ≡ false
no_end end k a b c = rw (a, b, c) (go (eqb end 1))
  where
    go : (x : Bool) → x && false ≡ false
    go true = refl
    go false = refl

-- the token of a control is seen
record Jump (k : ℕ) : Type 0 where
  seen : Fits k 0
  a_control : is_control k ≡ true
  no_semicolon : eqb k Kind.Semicolon ≡ false
  no_list : (end : ℕ) → ends end k ≡ false

continues : Jump Kind.Continue
continues = record { seen = fits refl; a_control = refl; no_semicolon = refl; no_list = λ end. no_end end Kind.Continue refl refl refl }

breaks : Jump Kind.Break
breaks = record { seen = fits refl; a_control = refl; no_semicolon = refl; no_list = λ end. no_end end Kind.Break refl refl refl }

returns : Jump Kind.Return
returns = record { seen = fits refl; a_control = refl; no_semicolon = refl; no_list = λ end. no_end end Kind.Return refl refl refl }

-- labels
no_label_seen : {r : List ℕ} (q : List Error) → Starts false 4 r → try_label q r ≡ ok 0 r
unfolding try_label
no_label_seen q h = enough (first_is q _ h λ k v s e. if_no _ _ (isnt e Kind.Label refl) done) (le_refl 0)

label_there : {n : ℕ} {r : List ℕ} (q : List Error) → IsName n → try_label q (Kind.Label ∷ n ∷ r) ≡ ok (suc n) r
unfolding try_label
label_there q h = enough (sees q _ _ (fits h) (if_yes _ _ refl done)) (le_refl 0)

label_seen : {l end : ℕ} {r : List ℕ} (q : List Error) → IsLabel l → Ended end r → try_label q (label l r) ≡ ok l r
unfolding try_label
label_seen q no_label h = enough (end_first q _ h λ k s e. if_no _ _ e.not_label done) (le_refl 0)
label_seen q (a_label n) h = label_there q n

module _ (d : ℕ) (R : Reads d) where
  -- loops, behind their first token
  body_back : {b : Tree} → Valid body b → (q r : List ℕ) → (s : Stmts) × Needs (need b own) d (Block.body (at_depth d) q (write b own (Kind.End ∷ 0 ∷ r))) (ok s r) × (stmt_list_of s ≡ b)
  unfolding Block.body write need
  body_back (v_body {f = f} {c = c} h j) q r =
      (record { suite = f; control = c }, weigh (then_is _ _ (R.r_list h j 0 q _ at_end) (sees _ _ _ (fits refl) done)) (omega arith), refl)

  loop_back : {b : Tree} (l : ℕ) → Valid body b → (q r : List ℕ) → Needs (need b own) d (loop (at_depth d) l q (write b own (Kind.End ∷ 0 ∷ r))) (ok (Node.loop l b) r)
  unfolding loop
  loop_back l h q r =
      let u = body_back h q r in
      weigh (then_is _ _ u.1 (exactly (ap (λ b. ok (Node.loop l b) r) u.2))) (omega arith)

  while_back : {c b : Tree} (l : ℕ) → Valid (ex true false) c → Valid body b → (q r : List ℕ)
      → Needs (max (need c own) (need b own)) d (while_loop (at_depth d) l q (write c own (Kind.Do ∷ 0 ∷ write b own (Kind.End ∷ 0 ∷ r)))) (ok (Node.while_loop l c b) r)
  unfolding while_loop
  while_back {c} l g h q r =
      let u = body_back h q r in
      weigh (then_is _ _ (ex_back d R g q _ (after (Follow.ends refl))) (expects _ _ _ _ (fits refl)
      (then_is _ _ u.1 (exactly (ap (λ b. ok (Node.while_loop l c b) r) u.2))))) (omega arith)

  for_back : {p e b : Tree} (l : ℕ) → Pattern p → Valid (ex true false) e → Valid body b → (q r : List ℕ)
      → Needs (max (need p own) (max (need e own) (need b own))) d (for_loop (at_depth d) l q (write p own (Kind.In ∷ 0 ∷ write e own (Kind.Do ∷ 0 ∷ write b own (Kind.End ∷ 0 ∷ r))))) (ok (Node.for_loop l p e b) r)
  unfolding for_loop lvalue_list
  for_back {p} {e} l i g h q r =
      let u = body_back h q r in
      weigh (then_is _ _
      (then_ok _ _ (no_keyword q (up (omega arith) (pattern_starts i _))) (then_is _ _ (pattern_back d R i q _ (weaker (omega arith) (Follow.ends refl))) (converts _ _ _ _ (as_expr i).back done)))
      (expects _ _ _ _ (fits refl) (then_is _ _ (ex_back d R g q _ (after (Follow.ends refl))) (expects _ _ _ _ (fits refl)
      (then_is _ _ u.1 (exactly (ap (λ b. ok (Node.for_loop l p e b) r) u.2))))))) (omega arith)

  -- statements
  pub stmt_reads : {t : Tree} → Valid Valid.stmt t → (q r : List ℕ) → Follows end_rank r → Needs (need t own) d (stmt (at_depth d) q (write t own r)) (ok t r)
  unfolding stmt stmt_label write need
  stmt_reads (v_expression h e) q r f =
      first_is _ _ (ex_starts h r) λ k v s b.
      if_no _ _ (isnt b Kind.Loop refl) (if_no _ _ (isnt b Kind.While refl) (if_no _ _ (isnt b Kind.For refl) (if_no _ _ (isnt b Kind.Label refl)
      (if_no _ _ (isnt b Kind.Assert refl) (if_no _ _ (isnt b Kind.Continue refl) (if_no _ _ (isnt b Kind.Break refl) (if_no _ _ (isnt b Kind.Return refl)
      (weigh (then_is _ _ (ex_back d R h q r (after f)) (if_no _ _ e done)) (omega arith)))))))))
  stmt_reads (v_loop no_label h) q r f = sees _ _ _ (fits refl) (if_yes _ _ refl (loop_back 0 h q r))
  stmt_reads (v_loop (a_label n) h) q r f =
      sees _ _ _ (fits n) (if_no _ _ refl (if_no _ _ refl (if_no _ _ refl (if_yes _ _ refl (sees _ _ _ (fits refl) (if_yes _ _ refl (loop_back _ h q r)))))))
  stmt_reads (v_while no_label g h) q r f = sees _ _ _ (fits refl) (if_no _ _ refl (if_yes _ _ refl (while_back 0 g h q r)))
  stmt_reads (v_while (a_label n) g h) q r f =
      sees _ _ _ (fits n) (if_no _ _ refl (if_no _ _ refl (if_no _ _ refl (if_yes _ _ refl (sees _ _ _ (fits refl) (if_no _ _ refl (if_yes _ _ refl (while_back _ g h q r))))))))
  stmt_reads (v_for no_label p g h) q r f = sees _ _ _ (fits refl) (if_no _ _ refl (if_no _ _ refl (if_yes _ _ refl (for_back 0 p g h q r))))
  stmt_reads (v_for (a_label n) p g h) q r f =
      sees _ _ _ (fits n) (if_no _ _ refl (if_no _ _ refl (if_no _ _ refl (if_yes _ _ refl (sees _ _ _ (fits refl) (if_no _ _ refl (if_no _ _ refl (if_yes _ _ refl (for_back _ p g h q r)))))))))
  stmt_reads (v_assert h) q r f =
      sees _ _ _ (fits refl) (if_no _ _ refl (if_no _ _ refl (if_no _ _ refl (if_no _ _ refl (if_yes _ _ refl
      (weigh (then_is _ _ (ex_back d R h q r (after f)) done) (omega arith)))))))

  -- the value of `break` and `return`
  no_value : {end : ℕ} {r : List ℕ} (q : List Error) → Ended end r → Needs 0 d (control_value (at_depth d) q r) (ok Node.absent r)
  unfolding control_value
  no_value q h = end_first q _ h λ k s e. if_yes _ _ (rw e.of_value) done

  a_value : {b : Bool} {t : Tree} → Valid (ex b false) t → (q r : List ℕ) → Follows end_rank r → Needs (need t own) d (control_value (at_depth d) q (write t own r)) (ok t r)
  unfolding control_value
  a_value h q r f =
      first_is q _ (ex_starts h r) λ k v s e. if_no _ _ (rw (isnt e Kind.End refl, isnt e Kind.Elif refl, isnt e Kind.Else refl, isnt e Kind.Semicolon refl)) (ex_back d R h q r (after f))

  -- a control, behind its token
  jump_back : {c : Tree} → Valid jump c → (end : ℕ) (q r : List ℕ) → Ended end r
      → (k : ℕ) × (s : List ℕ) × (write c own r ≡ k ∷ 0 ∷ s) × Jump k × Needs (need c own) d (control_flow (at_depth d) k q s) (ok c r)
  unfolding control_flow write need
  jump_back (v_continue l) end q r e = (Kind.Continue, _, refl, continues, if_yes _ _ refl (then_ok _ _ (label_seen q l e) done))
  jump_back (v_break l) end q r e = (Kind.Break, _, refl, breaks, if_no _ _ refl (if_yes _ _ refl (then_ok _ _ (label_seen q l e) (then_is _ _ (no_value q e) done))))
  jump_back (v_break_value h) end q r e =
      (Kind.Break, _, refl, breaks, if_no _ _ refl (if_yes _ _ refl (then_ok _ _ (no_label_seen q (ex_starts h r)) (weigh (then_is _ _ (a_value h q r (end_follows e)) done) (omega arith)))))
  jump_back (v_break_label {n = n} l h) end q r e =
      (Kind.Break, _, refl, breaks, if_no _ _ refl (if_yes _ _ refl (then_ok _ _ (label_there q l) (weigh (then_is _ _ (a_value h q r (end_follows e)) done) (omega arith)))))
  jump_back v_return end q r e = (Kind.Return, _, refl, returns, if_no _ _ refl (if_no _ _ refl (then_is _ _ (no_value q e) done)))
  jump_back (v_return_value h) end q r e =
      (Kind.Return, _, refl, returns, if_no _ _ refl (if_no _ _ refl (weigh (then_is _ _ (a_value h q r (end_follows e)) done) (omega arith))))

  -- a control, or none, ends a list
  jump_reads : {n k end : ℕ} {c : Tree} {r : List ℕ} (m : ℕ) (f : Forest) (q s : List ℕ) → Jump k → Ended end r → Needs n d (control_flow (at_depth d) k q s) (ok c r)
      → Needs n d (stmts (at_depth d) end (suc m) f q (k ∷ 0 ∷ s)) (ok (record { suite = f; control = c }) r)
  unfolding stmts control_last
  jump_reads {end = end} m f q s j e h =
      sees _ _ _ j.seen (if_no _ _ j.no_semicolon (if_no _ _ (j.no_list end) (if_yes _ _ j.a_control
      (weigh (either_is _ _ _ h (then_ok _ _ (enough (end_first q _ e λ k s g. if_yes _ _ g.of_list done) (le_refl 0)) done)) (omega arith)))))

  control_reads : {c : Tree} → Valid control c → (end m : ℕ) (f : Forest) (q r : List ℕ) → Ended end r
      → Needs (need c own) d (stmts (at_depth d) end (suc m) f q (write c own r)) (ok (record { suite = f; control = c }) r)
  unfolding stmts write need
  control_reads v_no_control end m f q r e = end_first q _ e λ k s g. if_no _ _ g.no_semicolon (if_yes _ _ g.of_list done)
  control_reads (v_control h) end m f q r e = let j = jump_back h end q r e in rw j.2 (jump_reads m f q j.1 j.3 e j.4)

  -- a statement joins those before it, and a semicolon is passed over
  stmt_joins : {t : Tree} → Valid Valid.stmt t → (end m : ℕ) (f : Forest) (q s : List ℕ)
      → Needs (need t own) d (stmts (at_depth d) end (suc m) f q (write t own (Kind.Semicolon ∷ 0 ∷ s))) (stmts (at_depth d) end m (snoc f t) q (Kind.Semicolon ∷ 0 ∷ s))
  unfolding stmts
  stmt_joins h end m f q s =
      first_is _ _ (stmt_starts h _) λ k v r b. if_no _ _ (isnt b Kind.Semicolon refl) (if_no _ _ (no_end end k (isnt b Kind.End refl) (isnt b Kind.Elif refl) (isnt b Kind.Else refl))
      (if_no _ _ (rw (isnt b Kind.Continue refl, isnt b Kind.Break refl, isnt b Kind.Return refl)) (weigh (either_is _ _ _ (stmt_reads h q _ (Follow.ends refl)) done) (omega arith))))

  semicolon : {n : ℕ} {y : Res Stmts} (end m : ℕ) (f : Forest) (q s : List ℕ) → suc (length s) ≤ m → ((i : ℕ) → length s ≤ i → Needs n d (stmts (at_depth d) end i f q s) y) → Needs n d (stmts (at_depth d) end m f q (Kind.Semicolon ∷ 0 ∷ s)) y
  unfolding stmts
  semicolon end zero f q s l h = absurd (omega arith)
  semicolon end (suc m) f q s l h = sees _ _ _ (fits refl) (if_yes _ _ refl (h m (omega arith)))

  -- the statements of a list, after some, and its control
  pub stmts_reads : {g : Forest} {c : Tree} → Valids Valid.stmt g → Valid control c → (end m : ℕ) (f : Forest) (q r : List ℕ) → Ended end r → length (as_suite (writes g) (write c own r)) ≤ m
      → Needs (max (most (needs g)) (need c own)) d (stmts (at_depth d) end m f q (as_suite (writes g) (write c own r))) (ok (record { suite = join f g; control = c }) r)
  unfolding write need
  stmts_reads {c = c} v_none j end zero f q r e l = absurd (omega (arith, tokens_length c own r, end_length e))
  stmts_reads {c = c} v_none j end (suc m) f q r e l =
      weigh (lands (control_reads j end m f q r e) (ap (λ g. ok (record { suite = g; control = c }) r) (sym (join_none f)))) (omega arith)
  stmts_reads {c = c} (v_more {t = t} {f = g} h hs) j end zero f q r e l = absurd (omega (arith, tokens_length t own (Kind.Semicolon ∷ 0 ∷ as_suite (writes g) (write c own r))))
  stmts_reads {c = c} (v_more {t = t} {f = g} h hs) j end (suc m) f q r e l =
      let w : List ℕ = as_suite (writes g) (write c own r) in
      let x : suc (length w) ≤ m = omega (arith, tokens_length t own (Kind.Semicolon ∷ 0 ∷ w)) in
      weigh (both (stmt_joins h end m f q w)
      (semicolon end m (snoc f t) q w x λ i y. lands (stmts_reads hs j end i (snoc f t) q r e y) (ap (λ g. ok (record { suite = g; control = c }) r) (join_snoc f t g))))
      (sym (max_assoc (need t own) (most (needs g)) (need c own)) ∙ ap (λ n. max n (need c own)) (sym (most_more t g)))
