use Rattle.std.proofs.Common.{rules}
use Rattle.ast.specs.Tree.{no_expr, more_expr}
use Rattle.tree.specs.Ans.{IsOk}
use Rattle.tree.specs.Stmts.{held}
use Rattle.sema.specs.Messages
use Rattle.sema.specs.Exprs.{require_numeric}
use Rattle.sema.specs.Stmts.{params_say}
use Rattle.promises.specs.Typings.{plain_context}
use Rattle.context.specs.Given.{texts, scopes, functions}
use Rattle.accepted.specs.Cases.{blank}
use Rattle.accepted.specs.Fields.{counted_in}
use Rattle.typing.proofs.Vecs.{checked-first, checked-end, params_by}
use Rattle.typing.proofs.check_params.Goals as goal

pub check_vec-requires : goal.check_vec-requires
check_vec-requires c = record {
  at_in_bounds = counted_in _ _ _ _ _ c.requires;
  callable = λ i k s o l r b g.
      let h : IsOk (held (texts c.args.sema) c.args.sema.texts.tree.now k) =
      checked-first no_expr more_expr (held (texts c.args.sema)) blank (λ e. require_numeric (scopes c.args.sema) (functions c.args.sema) e Messages.params_numeric) (params_say (plain_context (scopes c.args.sema) (functions c.args.sema))) (params_by _ _) (texts c.args.sema) c.args.sema.texts.tree.now c.args.at c.args.sink c.args.out.now c.requires i k s o l r (λ b k s a b' e. search rules) in
      search rules;
}

pub returns : goal.returns
returns c = checked-end no_expr more_expr (held (texts c.args.sema)) blank (λ e. require_numeric (scopes c.args.sema) (functions c.args.sema) e Messages.params_numeric) (params_say (plain_context (scopes c.args.sema) (functions c.args.sema))) (params_by _ _) _ _ _ _ _ c.requires _ _ _ c.check_vec.ensures (λ b k s a b' e. search rules)
