use mathlib.Core.Path.{sym}
use Rattle.accepted.specs.Parts.{next_is}
use Rattle.accepted.specs.Stmts.{classical_decl-qualifier, classical_decl-named, classical_decl_init, classical_decl-inside, classical_decl_is}
use native.Mathlib.Omega.{arith}
use Rattle.accepted.proofs.stmts.skip_classical_decl.Goals as goal

pub skip_qualifier-k-requires : goal.skip_qualifier-k-requires
skip_qualifier-k-requires c = classical_decl-qualifier _ _ _ _ c.requires.0 c.requires.1

pub overflow_add-k : goal.overflow_add-k
overflow_add-k c = let i = (classical_decl-named _ _ _ _ c.requires.0 c.requires.1 _ c.skip_qualifier-k.ensures).inside in omega arith

pub skip_option_expr-requires : goal.skip_option_expr-requires
skip_option_expr-requires c = classical_decl_init _ _ _ _ c.requires.0 c.requires.1 _ c.skip_qualifier-k.ensures

pub overflow_add-result : goal.overflow_add-result
overflow_add-result c = let i = classical_decl-inside _ _ _ _ c.requires.0 c.requires.1 _ c.skip_qualifier-k.ensures _ c.skip_option_expr.ensures in omega arith

pub returns : goal.returns
returns c = sym (next_is (classical_decl_is _ _ _ _ c.requires.0 c.requires.1 _ c.skip_qualifier-k.ensures _ c.skip_option_expr.ensures))
