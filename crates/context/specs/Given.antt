-- What a context that is passed around stands for.
use Rattle.std.specs.Prelude.{List}
use Rattle.ast.specs.Tree.{Text}
use Rattle.tree.specs.Decode.{texts_of}
use Rattle.sema.specs.Symbols.{Table, FunctionSig, Symbols}
use Rattle.context.specs.declared.sema_context.SemaContext.{SemaContext}
use Rattle.context.specs.View.{scopes_of, functions_of}

-- its texts, its scopes, and its functions
abbrev pub texts : SemaContext → List Text
texts c = texts_of c.texts.tree.now

abbrev pub scopes : SemaContext → Symbols
scopes c = scopes_of c.scratch.now c.depth

abbrev pub functions : SemaContext → Table FunctionSig
functions c = functions_of c.scratch.now
