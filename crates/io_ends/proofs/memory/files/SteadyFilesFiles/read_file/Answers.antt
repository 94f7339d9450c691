use Rattle.std.proofs.Common.{◌∙◌, sym, ap}
use Rattle.io_ends.specs.Known.{content_now}
use Rattle.io_ends.proofs.HeldFiles.{stands_at, contents_at-none, contents_at-first, contents_at-set, contents_at-kept, contents_of-none, content_now-first}
use Rattle.io_ends.proofs.memory.files.SteadyFilesFiles.read_file.Goals as goal

pub returns-in_default-clause-content : goal.returns-in_default-clause-content
returns-in_default-clause-content c =
    let none = contents_at-none c.args.path.now c.args.self.now.files.items (rw c.as_slice.ensures.value at (sym c.in_default.ensures.first)) in
    rw (c.miss.ensures.missing, none) tt

pub returns-in_default-clause-taken : goal.returns-in_default-clause-taken
returns-in_default-clause-taken c =
    let none = contents_at-none c.args.path.now c.args.self.now.files.items (rw c.as_slice.ensures.value at (sym c.in_default.ensures.first)) in
    rw c.miss.ensures.counted (contents_at-kept c.args.path.now c.args.self.now.files.items none)

pub returns-in_default-first-clause-content : goal.returns-in_default-first-clause-content
returns-in_default-first-clause-content c =
    let at = stands_at c.args.path.now c.args.self.now.files.items c.in-Some.at (rw c.as_slice.ensures.value at (sym c.in-Some.ensures.first)) in
    let empty = contents_of-none c.index.result.now (rw c.as_slice-2.ensures.value at (sym c.in_default-first.ensures.value)) in
    let none = contents_at-first c.args.path.now c.args.self.now.files.items c.in-Some.at c.index.result.now at c.index.ensures ∙ empty in
    rw (c.miss-in_default-first.ensures.missing, none) tt

pub returns-in_default-first-clause-taken : goal.returns-in_default-first-clause-taken
returns-in_default-first-clause-taken c =
    let at = stands_at c.args.path.now c.args.self.now.files.items c.in-Some.at (rw c.as_slice.ensures.value at (sym c.in-Some.ensures.first)) in
    let empty = contents_of-none c.index.result.now (rw c.as_slice-2.ensures.value at (sym c.in_default-first.ensures.value)) in
    let none = contents_at-first c.args.path.now c.args.self.now.files.items c.in-Some.at c.index.result.now at c.index.ensures ∙ empty in
    rw c.miss-in_default-first.ensures.counted (contents_at-kept c.args.path.now c.args.self.now.files.items none)

pub returns-clause-content : goal.returns-clause-content
returns-clause-content c =
    let at = stands_at c.args.path.now c.args.self.now.files.items c.in-Some.at (rw c.as_slice.ensures.value at (sym c.in-Some.ensures.first)) in
    let first = content_now-first c.index.result.now c.in-Some-first.content.now (rw c.as_slice-2.ensures.value at (sym c.in-Some-first.ensures.value)) in
    let found = ap content_now (contents_at-first c.args.path.now c.args.self.now.files.items c.in-Some.at c.index.result.now at c.index.ensures) ∙ first in
    rw (found) (rw c.as_slice-3.ensures.value at c.in_ok-bytes.ensures)

pub returns-clause-taken : goal.returns-clause-taken
returns-clause-taken c =
    let at = stands_at c.args.path.now c.args.self.now.files.items c.in-Some.at (rw c.as_slice.ensures.value at (sym c.in-Some.ensures.first)) in
    contents_at-set c.args.path.now c.args.self.now.files.items c.in-Some.at c.index_mut.result.now c.take_content.new.self at c.index_mut.ensures.value c.take_content.ensures.path c.take_content.ensures.contents
