-- What the contracts of the functions that read parameters say. Assumes nothing.
use Rattle.std.specs.Prelude.{◌≡◌, Result, Ok, Err, List, [], ◌∷◌, ◌++◌, Option, None, Some, IfSome, ℕ, ◌+◌, ◌*◌, ◌≤◌, ◌<◌, eqb, take, drop}
use Rattle.tree.specs.Tree.{Tree, Forest, none, more, snoc, count, records, all_records}
use Rattle.tree.specs.Node
use Rattle.grammar.specs.Reading.Result.{Res, ok, ifb, Error}
use Rattle.grammar.specs.Reading.Function.{Param, required, variadic, default, Params}
use Rattle.scan.specs.Post.{no_words, Wrote, Failed, Got, Unread}
use Rattle.nodes.specs.Parts.{Header, h_required, h_variadic, h_default, join}
use Rattle.scan.specs.declared.Halt.{Halt}
use Rattle.nodes.specs.declared.Head.{Head}
use Rattle.nodes.specs.declared.Head.TheVariants.{Required as HRequired, Variadic as HVariadic, Default as HDefault}
use Rattle.nodes.specs.declared.Parameter.{Parameter}
use Rattle.nodes.specs.declared.Parameter.TheVariants.{Required as PRequired, Variadic as PVariadic, Default as PDefault}
use Rattle.nodes.specs.declared.Counts.{Counts}
use Rattle.nodes.specs.declared.Joined.{Joined}

-- a name with its access is below this
abbrev pub name_bound : ℕ
name_bound = 8589934592

-- so is that of a variadic parameter, if there is one
abbrev pub NamedBelow : Option ℕ → Type 0
NamedBelow name = IfSome name (λ v. v < name_bound)

-- THE HEAD of a parameter
pub record HeaderAt (make : ℕ → Header) (d : List Error → Res Header) (T : List ℕ) (least p v : ℕ) : Type 0 where
  pub got : Got d T least p
  pub is : got.what ≡ make v
  pub below : v < name_bound

abbrev pub HeadsAs : (List Error → Res Header) → List ℕ → ℕ → ℕ → Result Head Halt → Type 0
HeadsAs d T pos least (Ok (HRequired p v)) = HeaderAt h_required d T least p v
HeadsAs d T pos least (Ok (HVariadic p v)) = HeaderAt h_variadic d T least p v
HeadsAs d T pos least (Ok (HDefault p v)) = HeaderAt h_default d T least p v
HeadsAs d T pos least (Err h) = Unread d T pos pos h

pub record Heads (d : List Error → Res Header) (T : List ℕ) (pos least : ℕ) (r : Result Head Halt) : Type 0 where
  pub how : HeadsAs d T pos least r

-- A PARAMETER, after so many required ones and so many with a default. Before the first default stands the list of the required ones
pub record DefaultOne : Type 0 where
  pub name : ℕ
  pub value : Tree

unfoldable pub required_words : ℕ → ℕ → List ℕ
required_words m n = ifb (eqb n 0) (λ _. (1 + 256 * m) ∷ 0 ∷ []) (λ _. [])

abbrev pub default_words : ℕ → ℕ → DefaultOne → List ℕ
default_words m n x = required_words m n ++ records (Node.default_def x.name x.value)

pub record ParameterAt (make : ℕ → Param) (d : Res Param) (T : List ℕ) (pos at : ℕ) (S Q : List ℕ) (p v : ℕ) (S' Q' : List ℕ) : Type 0 where
  pub run : Wrote {A = Unit {0}} no_words d (λ u q r. ok (make v) r) T pos (pos + 2) 8 at S Q p at S' Q'
  pub below : v < name_bound

abbrev pub ParamsAs : Res Param → List ℕ → ℕ → ℕ → ℕ → ℕ → List ℕ → List ℕ → List ℕ → List ℕ → Result Parameter Halt → Type 0
ParamsAs d T pos m n at S Q S' Q' (Ok (PRequired p v)) = ParameterAt required d T pos at S Q p v S' Q'
ParamsAs d T pos m n at S Q S' Q' (Ok (PVariadic p v)) = ParameterAt variadic d T pos at S Q p v S' Q'
ParamsAs d T pos m n at S Q S' Q' (Ok (PDefault end)) = Wrote (default_words m n) d (λ x q r. ok (default x.name x.value) r) T pos (pos + 2) 8 at S Q end.pos end.at S' Q'
ParamsAs d T pos m n at S Q S' Q' (Err h) = Failed d T pos pos at S Q S' Q' h

pub record ParamsRead (d : Res Param) (T : List ℕ) (pos m n at : ℕ) (S Q S' Q' : List ℕ) (r : Result Parameter Halt) : Type 0 where
  pub how : ParamsAs d T pos m n at S Q S' Q' r

-- PARAMETERS so far, in the store: the required ones, and from the first default on their list and those with a default
abbrev pub words_of : Forest → Forest → List ℕ
words_of r none = all_records r
words_of r (more t f) = records (Node.list r) ++ all_records (more t f)

abbrev pub params_words : Params → List ℕ
params_words ps = words_of ps.required_list ps.default_list

abbrev pub variadic_of : Option ℕ → Tree
variadic_of None = Node.absent
variadic_of (Some v) = Node.param_def v

abbrev pub with_default : Params → ℕ → Tree → Params
with_default ps v e = record { required_list = ps.required_list; default_list = snoc ps.default_list (Node.default_def v e); variadic_one = ps.variadic_one }

-- the code's counts say them
pub record Fitting (ps : Params) (c : Counts) : Type 0 where
  pub are_required : count ps.required_list ≡ c.required
  pub are_default : count ps.default_list ≡ c.default
  pub is_variadic : ps.variadic_one ≡ variadic_of c.variadic

-- d joins one to those of which there are so many
pub record JoinsTo (d : List Error → Res Params) (X T : List ℕ) (pos : ℕ) (before : Counts) (at : ℕ) (S' : List ℕ) (j : Joined) : Type 0 where
  pub got : Got d T pos j.end.pos
  pub fits : Fitting got.what j.counts
  pub few : j.counts.required + j.counts.default ≤ before.required + before.default + 1
  pub below : NamedBelow j.counts.variadic
  pub up : at ≤ j.end.at
  pub far : j.end.at ≤ at + 2
  pub text : take j.end.at S' ≡ X ++ params_words got.what

pub record Unjoined (d : List Error → Res Params) (T : List ℕ) (pos : ℕ) (S S' : List ℕ) (h : Halt) : Type 0 where
  pub unread : Unread d T pos pos h
  pub text : S' ≡ S

abbrev pub JoinsAs : (List Error → Res Params) → List ℕ → List ℕ → ℕ → Counts → ℕ → List ℕ → List ℕ → Result Joined Halt → Type 0
JoinsAs d X T pos before at S S' (Ok j) = JoinsTo d X T pos before at S' j
JoinsAs d X T pos before at S S' (Err h) = Unjoined d T pos S S' h

pub record Joins (d : List Error → Res Params) (X T : List ℕ) (pos : ℕ) (before : Counts) (at : ℕ) (S S' : List ℕ) (r : Result Joined Halt) : Type 0 where
  pub how : JoinsAs d X T pos before at S S' r

-- a parameter that was read joins those before it, which end at «at» behind X
abbrev pub JoinedAs : List ℕ → Counts → ℕ → List ℕ → List ℕ → Parameter → Result Joined Halt → Type 0
JoinedAs T c at S S' (PRequired p x) r = (X : List ℕ) (ps : Params) → Fitting ps c → take at S ≡ X ++ params_words ps → Joins (λ q. join ps (required x) q (drop p T)) X T p c at S S' r
JoinedAs T c at S S' (PVariadic p x) r = (X : List ℕ) (ps : Params) → Fitting ps c → take at S ≡ X ++ params_words ps → Joins (λ q. join ps (variadic x) q (drop p T)) X T p c at S S' r
JoinedAs T c at S S' (PDefault end) r =
    (X : List ℕ) (ps : Params) (x : ℕ) (e : Tree) → Fitting ps c → take end.at S ≡ X ++ params_words (with_default ps x e) → Joins (λ q. join ps (default x e) q (drop end.pos T)) X T end.pos c end.at S S' r

pub record JoinedBy (T : List ℕ) (c : Counts) (at : ℕ) (S S' : List ℕ) (one : Parameter) (r : Result Joined Halt) : Type 0 where
  pub how : JoinedAs T c at S S' one r

-- it stands within n words of tokens and z of the store, and its name is a name
abbrev pub OneAs : ℕ → ℕ → ℕ → Parameter → Type 0
OneAs n z at (PRequired p v) = (p ≤ n) × (at + 2 ≤ z) × (v < name_bound)
OneAs n z at (PVariadic p v) = (p ≤ n) × (v < name_bound)
OneAs n z at (PDefault end) = end.pos ≤ n

pub record One (n z at : ℕ) (one : Parameter) : Type 0 where
  pub how : OneAs n z at one
