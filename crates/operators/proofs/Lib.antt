-- Simple: letter, not, or, previous, next. ByKind: the choice by kind.
pub mod Simple
pub mod ByKind
