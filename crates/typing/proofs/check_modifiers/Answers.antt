use Rattle.std.proofs.Common.{rules, [], ◌∷◌}
use Rattle.tree.specs.Ans.{IsOk}
use Rattle.tree.specs.Stmts.{modifier}
use Rattle.sema.specs.Exprs.{check_modifier, check_modifiers}
use Rattle.context.specs.Given.{texts, scopes, functions}
use Rattle.accepted.specs.Cases.{blank_modifier}
use Rattle.accepted.specs.Fields.{counted_in}
use Rattle.typing.proofs.Vecs.{checked-first, checked-end, modifiers_by}
use Rattle.typing.proofs.check_modifiers.Goals as goal

pub check_vec-requires : goal.check_vec-requires
check_vec-requires c = record {
  at_in_bounds = counted_in _ _ _ _ _ c.requires;
  callable = λ i k s o l r b g.
      let h : IsOk (modifier (texts c.args.sema) c.args.sema.texts.tree.now k) =
      checked-first [] ◌∷◌ (modifier (texts c.args.sema)) blank_modifier (check_modifier (scopes c.args.sema) (functions c.args.sema)) (check_modifiers (scopes c.args.sema) (functions c.args.sema)) (modifiers_by _ _) (texts c.args.sema) c.args.sema.texts.tree.now c.args.at c.args.sink c.args.out.now c.requires i k s o l r (λ b k s a b' e. search rules) in
      search rules;
}

pub returns : goal.returns
returns c = checked-end [] ◌∷◌ (modifier (texts c.args.sema)) blank_modifier (check_modifier (scopes c.args.sema) (functions c.args.sema)) (check_modifiers (scopes c.args.sema) (functions c.args.sema)) (modifiers_by _ _) _ _ _ _ _ c.requires _ _ _ c.check_vec.ensures (λ b k s a b' e. search rules)
